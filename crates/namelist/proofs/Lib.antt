-- What the proofs of the functions share.
pub mod Naming  -- names byte by byte
pub mod Checking  -- entry by entry
pub mod Walking  -- along the entries of a list
pub mod Finding  -- all entries of a list, and the one that is sought
