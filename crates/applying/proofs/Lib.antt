-- Laws that the proofs share.
pub mod Builds
mod Nexts
pub mod Onwards
pub mod Rooms
mod Fills
mod Applies
mod Lending
