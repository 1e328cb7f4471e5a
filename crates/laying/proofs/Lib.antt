-- What the proofs of the functions share.
pub mod Sorts  -- words of each kind
pub mod Noting  -- one word more
pub mod Seeking  -- a word sought
pub mod Holding  -- a word laid
pub mod Bracketing  -- brackets opened and shut
pub mod Adding  -- a piece laid
pub mod Pieces  -- what each piece is
pub mod Going  -- the pass over a text
