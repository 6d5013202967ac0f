pub mod Cells
pub mod ByLine
