pub mod Space
pub mod Wrapping
pub mod Alignment
