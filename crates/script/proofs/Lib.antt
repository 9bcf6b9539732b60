pub mod Bounds
pub mod Effects
pub mod Ends
pub mod Letters
pub mod Outcomes
pub mod Pinned
pub mod Refused
pub mod WholeInput
