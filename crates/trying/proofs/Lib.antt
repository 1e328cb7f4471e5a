-- Laws that the proofs share.
mod Carries
mod Steps
mod Quicks
mod Moves
