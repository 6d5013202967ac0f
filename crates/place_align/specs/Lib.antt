pub mod Align
pub mod Sums
pub mod Axis
