-- What the proofs of the functions share.
pub mod Skipping  -- the entries of a kind
pub mod Putting  -- own names one behind the other
pub mod Whole  -- the parts of a list
pub mod Parts  -- the list with the query's own names
