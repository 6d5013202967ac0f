pub mod Totals
pub mod Spread
pub mod Fallback
pub mod InOrder
