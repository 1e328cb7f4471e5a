-- What printing answers; the text record by record. What that means is in proofs/.
pub mod Walk
pub mod Laying
pub mod Outcome
pub mod Is
pub mod Answer
