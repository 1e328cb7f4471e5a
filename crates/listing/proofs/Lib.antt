-- What the proofs of the functions share.
pub mod Filled  -- bytes copied, and sizes summed up
pub mod Listed  -- names one behind the other
