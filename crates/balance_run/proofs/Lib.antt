pub mod ReadingLaws
pub mod Finish
pub mod RunLaws
