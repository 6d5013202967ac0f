pub mod MainAxis
pub mod MainCall
pub mod Parts
pub mod Lists
