pub mod Cells
pub mod Modes
pub mod Division
pub mod Given
pub mod BreakLaws
