-- Laws that the proofs share.
mod Weighs
