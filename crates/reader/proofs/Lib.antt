-- What the proofs of the functions share.
pub mod Stepping  -- what each piece adds to what is held
pub mod Stopping  -- a full stop
pub mod Naming  -- a name that waited for its bracket
pub mod Walks  -- one pass over a text
