-- The next goal and answer written off the heap (Carrying); the step (Stepping).
pub mod Carrying
pub mod Stepping
