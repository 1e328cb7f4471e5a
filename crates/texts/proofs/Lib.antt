-- What the proofs of the functions share.
pub mod Seeking  -- the search for a formula's place
pub mod Names  -- the names in the table, and their list
pub mod Finishing  -- what is answered
