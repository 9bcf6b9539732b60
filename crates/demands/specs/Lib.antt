pub mod Following
pub mod History
pub mod Promises
