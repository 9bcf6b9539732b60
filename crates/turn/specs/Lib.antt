pub mod Apart
pub mod Forks
pub mod Sites
pub mod Words
