pub mod Down
pub mod Pinned
pub mod Questions
