pub mod Input
pub mod Counts
pub mod Props
