-- What the proofs of the single step and of the apply call share.
pub mod Numbers
pub mod Steps
