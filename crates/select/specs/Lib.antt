pub mod Fields
pub mod Select
