pub mod Columns
pub mod Container
pub mod Stages
