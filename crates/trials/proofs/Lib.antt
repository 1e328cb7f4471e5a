-- Laws that the proofs share, and those of the step.
mod Resets
pub mod Heaps
pub mod Tests
