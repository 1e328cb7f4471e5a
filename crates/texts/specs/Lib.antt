-- The entry that reads a text.
pub mod Seek  -- the search for a formula's place, piece by piece
pub mod Finished  -- what is held when a text is read
pub mod Faults  -- why a text is refused that is read
