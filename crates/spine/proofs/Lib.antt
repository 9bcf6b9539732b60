pub mod Along
pub mod Edits
pub mod Ends
pub mod Pinned
