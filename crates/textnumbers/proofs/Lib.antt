-- What the proofs of the functions share.
pub mod Sums  -- the numbers, as they are put together
