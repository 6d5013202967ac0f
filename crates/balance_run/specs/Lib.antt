pub mod Reading
pub mod Run
