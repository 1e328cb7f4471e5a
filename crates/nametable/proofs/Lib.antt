-- What the proofs of the functions share.
pub mod Words  -- names byte by byte
pub mod Chain  -- the search along a chain
pub mod Adding  -- one name more
pub mod Numbers  -- what is answered for a name
