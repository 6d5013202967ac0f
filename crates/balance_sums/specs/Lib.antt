pub mod Whole
pub mod Sums
