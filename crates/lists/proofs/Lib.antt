pub mod UpTo
pub mod Each
pub mod Filling
pub mod ByLine
pub mod Walk
