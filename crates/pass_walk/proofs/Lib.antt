pub mod Spacing
pub mod Sizing
