pub mod Verdicts
pub mod Sweep
pub mod Order
pub mod Checks
pub mod Marked
pub mod Squares
