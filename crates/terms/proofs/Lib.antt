pub mod ApartLaws
pub mod ArgumentLaws
pub mod FoundLaws
pub mod MguLaws
pub mod NumberLaws
pub mod UnifyLaws
pub mod VariantLaws
pub mod RenamingLaws
