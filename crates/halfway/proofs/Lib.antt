-- What the proofs of the functions share.
pub mod Changes  -- what each piece changes
