pub mod Grown
pub mod Pinned
