-- What the proofs of the functions share.
pub mod Pushing  -- bytes one behind the other
pub mod Nodes  -- the bytes of nodes
pub mod Adding  -- one node more
pub mod Raising  -- one argument more, and variables
