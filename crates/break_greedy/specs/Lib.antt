pub mod Breaking
pub mod Calls
pub mod Steps
