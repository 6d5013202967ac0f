mod Check
pub mod Table
