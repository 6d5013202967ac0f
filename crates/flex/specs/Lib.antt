pub mod Flex
pub mod Items
pub mod Accepted
pub mod Steps
