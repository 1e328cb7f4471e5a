-- Laws that the proofs share.
pub mod Ranks
pub mod Dives
