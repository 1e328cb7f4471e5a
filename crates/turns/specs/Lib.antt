-- Queries as text on bytes (document 02, C-13): few modes and counts in the place of the reader's states.
pub mod MachineLaws
pub mod Passing
pub mod Once
