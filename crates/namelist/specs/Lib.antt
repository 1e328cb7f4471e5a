-- Name lists (document 02, C-13 and C-14).
pub mod List
pub mod Bytes
pub mod ListLaws
pub mod Tests
pub mod ApartLaws
pub mod Meaning
pub mod NamingLaws
pub mod Table
pub mod Growing
pub mod SpeltLaws
pub mod Sorts
