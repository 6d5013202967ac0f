pub mod Rule
pub mod Natural
pub mod Dp
pub mod Ends
pub mod Sizes
