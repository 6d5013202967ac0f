pub mod Counting
pub mod Going
pub mod Alone
