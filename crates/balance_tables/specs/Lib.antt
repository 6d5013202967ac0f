pub mod Tables
pub mod Pixels
