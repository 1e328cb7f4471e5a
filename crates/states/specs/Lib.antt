-- The states of a run, as they are held.
pub mod Codes
pub mod States
pub mod Visiting
