pub mod Variables
pub mod Stage
