-- One clause applied, in words.
pub mod Applying
