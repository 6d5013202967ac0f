pub mod BoundMarks
pub mod ItemMarks
