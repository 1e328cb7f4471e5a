pub mod Falling
pub mod SolvedLaws
pub mod BindLaws
