pub mod Beyond
pub mod Promised
