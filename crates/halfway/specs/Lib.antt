-- How far a query's text is read: few modes and counts in the place of the reader's states.
pub mod Machine
pub mod Stage
