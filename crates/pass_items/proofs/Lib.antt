pub mod Columns
pub mod Laid
pub mod Stored
