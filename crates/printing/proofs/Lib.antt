pub mod ArityLaws
pub mod RenumberLaws
pub mod SizeLaws
pub mod SpacingLaws
pub mod Theorem
pub mod VariableLaws
pub mod OrderLaws
pub mod UseLaws
