pub mod Altering
pub mod Asking
pub mod Descending
pub mod HandedBack
pub mod Pinned
pub mod Splitting
