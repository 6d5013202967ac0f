pub mod Main
pub mod MainParts
pub mod Sizes
pub mod SizeParts
