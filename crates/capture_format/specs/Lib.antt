pub mod Format
pub mod Reading
pub mod Written
pub mod Parts
