-- What is stored and written (Storage); and that a contract has one outcome (Once).
pub mod Storage
pub mod Once
