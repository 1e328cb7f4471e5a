-- The nodes of a query as bytes, laid down piece by piece of its text (document 02, C-13).
pub mod Page  -- what each token adds
pub mod PageLaws  -- what the tokens of formulas add
pub mod NodeLaws  -- that these are the bytes of the query's nodes, and its names
pub mod PieceLaws  -- the same by the pieces of a text
pub mod Words  -- the query's own words as the code holds them
pub mod Held  -- a page as the code holds it
pub mod Adding  -- what is asked and answered as a piece is laid
