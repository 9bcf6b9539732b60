pub mod Mending
pub mod Removing
