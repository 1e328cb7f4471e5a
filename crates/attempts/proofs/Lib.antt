-- Laws that the proofs share, and those of the step.
pub mod Undoing
pub mod Extending
pub mod Telling
pub mod Laying
pub mod PassingLaws
pub mod Seeking
pub mod FactLaws
