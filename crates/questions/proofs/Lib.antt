pub mod Back
pub mod Codes
pub mod Kept
pub mod NewNames
pub mod Place
pub mod OutcomeLaws
pub mod GivenLaws
