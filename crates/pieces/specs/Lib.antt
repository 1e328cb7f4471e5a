-- The piece at a place of a text, as the code answers it.
pub mod Found
pub mod Refusal
