pub mod ManyLines
pub mod Independent
