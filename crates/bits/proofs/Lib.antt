pub mod Held
pub mod Ones
pub mod Packed
pub mod Pinned
pub mod TwoWords
