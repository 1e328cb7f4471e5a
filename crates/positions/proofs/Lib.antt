-- Laws that the proofs share.
pub mod Rows
pub mod Links
pub mod Slotted
