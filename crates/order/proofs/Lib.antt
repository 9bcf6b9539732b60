pub mod Asking
pub mod Pinned
