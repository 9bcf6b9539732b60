pub mod Edits
pub mod Orderly
