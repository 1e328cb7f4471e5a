-- Laws that the proofs share.
pub mod Stepping
pub mod Flats
pub mod Linked
pub mod Progress
