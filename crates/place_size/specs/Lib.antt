pub mod Container
pub mod CrossSize
pub mod Parts
pub mod Lists
