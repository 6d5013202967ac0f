pub mod Each
pub mod Items
