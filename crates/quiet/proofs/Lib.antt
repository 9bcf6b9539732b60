pub mod Passed
pub mod Pinned
pub mod Visited
