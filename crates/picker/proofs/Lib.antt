-- What the proofs share.
pub mod Picks
