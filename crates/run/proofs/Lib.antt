pub mod Altered
pub mod OneByOne
pub mod Pinned
pub mod Runs
