pub mod Asking
pub mod Gathering
pub mod Names
pub mod Pinned
