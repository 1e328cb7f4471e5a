-- What the proofs of the functions share.
pub mod Bytes  -- tests of a byte
pub mod Runs  -- the first byte that fails a test
pub mod Shown  -- what is answered of a piece stands there
