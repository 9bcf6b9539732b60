pub mod Builds
pub mod OneState
pub mod Pinned
pub mod Verdicts
