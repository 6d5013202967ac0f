pub mod Wrapping
pub mod Outer
pub mod Parts
pub mod BreakStage
