-- What the detector does.
pub mod Detecting
