pub mod Fields
pub mod Pinned
pub mod Search
pub mod Widths
