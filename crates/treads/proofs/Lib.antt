-- Laws that the proofs share.
mod Entering
mod Nexts
pub mod Known
mod Going
mod Treading
mod Dropping
mod Summing
mod Firsts
mod Bounding
mod UnderWay
