pub mod Lines
pub mod LineSize
pub mod Pass
pub mod Beyond
pub mod Promised
