-- What the proofs of the functions share.
pub mod Wrote  -- what each record adds
pub mod Walks  -- along the records
pub mod Printing  -- the whole answer
