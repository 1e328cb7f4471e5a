pub mod Bound
pub mod Closing
pub mod Formulas
pub mod Theorem
