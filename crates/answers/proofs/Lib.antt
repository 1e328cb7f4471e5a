-- What the proofs of the functions share.
pub mod Clearing  -- records cleared one behind the other
