-- The entry that reads a query's text.
pub mod Finished  -- what is held when a text is laid down
