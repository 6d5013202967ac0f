pub mod Front
pub mod Items
pub mod Format
pub mod Meaning
