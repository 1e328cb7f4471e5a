-- One predicate, one arity, of a book that was read.
pub mod Remembers  -- what is remembered of arities
pub mod Meeting  -- records one by one
