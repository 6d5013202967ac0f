pub mod Cross
pub mod Parts
