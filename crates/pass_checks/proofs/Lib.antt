pub mod Taken
pub mod Rooms
pub mod PassMarks
