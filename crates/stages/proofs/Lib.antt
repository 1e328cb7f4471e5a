-- What the proofs of the functions share.
pub mod Depths  -- the counts behind the open brackets
pub mod Holding  -- what a stage says of the state that it holds
pub mod Marks  -- what brackets, commas, `:-` and full stops lead to
pub mod Kept  -- variables by first appearance
pub mod Names  -- what names and variables lead to
pub mod Turning  -- from tokens to the pieces of a text
