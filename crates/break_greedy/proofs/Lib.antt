pub mod Taken
pub mod Lines
pub mod Line
pub mod Counts
pub mod Accepted
pub mod Unique
