-- What the pen's parts do.
pub mod Parts
