-- What the proofs share, and those of the search loop.
pub mod Copies
pub mod Verdicts
pub mod Fronts
pub mod Turns
pub mod Looks
pub mod Twice
pub mod Visits
