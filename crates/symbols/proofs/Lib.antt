-- What the proofs of the functions share.
pub mod Parts  -- parts of a list
pub mod Tables  -- a section lent as a table, and put back
