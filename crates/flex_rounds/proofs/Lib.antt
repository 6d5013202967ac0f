pub mod Loop
pub mod Finish
