-- What the proofs of the functions share.
pub mod Layings  -- bytes laid one behind the other
pub mod Stacks  -- what is owed
