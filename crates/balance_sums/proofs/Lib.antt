pub mod WholeLaws
pub mod SumsLaws
