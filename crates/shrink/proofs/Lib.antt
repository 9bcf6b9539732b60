pub mod Chains
pub mod Descending
pub mod Joining
pub mod Outcomes
pub mod Parts
pub mod Pinned
pub mod Trimming
