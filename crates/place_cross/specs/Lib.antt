pub mod Lines
pub mod CrossAxis
pub mod Cells
pub mod Parts
