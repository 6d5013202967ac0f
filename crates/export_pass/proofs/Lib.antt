pub mod Fields
pub mod Seen
pub mod Unique
