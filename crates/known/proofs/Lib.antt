-- What the proofs of the functions share.
pub mod Comparing  -- the entry that has a name
pub mod Along  -- along the entries of a list
