-- What the proofs of the functions share.
pub mod Goals  -- the records of a book, and the nodes of a goal
pub mod Counting  -- how many uses stand before a clash
pub mod Seeking  -- the search for a formula's place
