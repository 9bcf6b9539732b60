pub mod Query
pub mod TreeAt
pub mod Stepping
