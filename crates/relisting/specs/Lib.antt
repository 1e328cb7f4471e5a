-- The name list with the new names in it.
pub mod Relisted
