pub mod InOrder
pub mod Signs
pub mod Falls
pub mod Round
pub mod Units
pub mod Determined
pub mod Sign
