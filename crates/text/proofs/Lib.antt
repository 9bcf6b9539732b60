pub mod Cutting
pub mod Digits
pub mod Pinned
pub mod Putting
pub mod Seeking
pub mod Stepwise
