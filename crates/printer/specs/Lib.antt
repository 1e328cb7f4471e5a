-- What the printer's parts do.
pub mod Parts
pub mod Faults  -- why a text is not written
