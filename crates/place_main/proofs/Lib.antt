pub mod MainLaws
pub mod MainCalled
