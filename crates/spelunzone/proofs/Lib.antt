pub mod Pinned
pub mod Replies
