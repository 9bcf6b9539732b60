pub mod Prints
pub mod Promises
pub mod Playing
