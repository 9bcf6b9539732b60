pub mod Output
pub mod Pinned
