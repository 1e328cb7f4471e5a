-- The first formula of a query whose predicate had another arity.
pub mod Meeting  -- a query by the arities of its book and its own
pub mod Seek  -- the search for a formula's place, piece by piece
