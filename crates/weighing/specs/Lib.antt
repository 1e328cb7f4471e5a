-- Why no clause fits.
pub mod Stuck
