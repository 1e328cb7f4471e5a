-- What the proofs of the functions share.
pub mod Places  -- records of open symbols, and what a name adds
pub mod Arguments  -- variables, and closing brackets
