pub mod ScheduleLaws
pub mod Held
pub mod Lemmas
pub mod Theorem
pub mod Finite
pub mod Equivalence
pub mod EachState
