pub mod Choice
pub mod Leaf
