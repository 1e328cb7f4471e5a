-- What the proofs of the functions share.
pub mod Own  -- the names of a list and the query's own
pub mod Finishing  -- what is answered
pub mod Checks  -- what is refused before a text is laid down
