pub mod Marked
pub mod Accept
pub mod Division
