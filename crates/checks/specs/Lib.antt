pub mod Domain
pub mod Marks
pub mod Optional
pub mod Shapes
pub mod Lists
