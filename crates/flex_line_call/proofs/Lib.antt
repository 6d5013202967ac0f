pub mod OneLine
pub mod Determined
