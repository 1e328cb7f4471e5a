pub mod Back
pub mod Cases
pub mod ClashLaws
pub mod Good
pub mod PlaceLaws
pub mod ThereLaws
pub mod OutcomeLaws
