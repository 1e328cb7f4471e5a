pub mod Writing
pub mod Drafted
