pub mod Sound
pub mod Resume
pub mod Turns
pub mod Whole
