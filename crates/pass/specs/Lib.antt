pub mod Laid
pub mod Stages
pub mod Alone
pub mod Pass
pub mod Checked
pub mod Lent
