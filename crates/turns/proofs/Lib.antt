-- What the proofs of the functions share.
pub mod Turning  -- what a piece leads to
pub mod Passing  -- what the few modes make of a piece
pub mod Holding  -- what is held of the next stage
pub mod Walking  -- one pass over the text
