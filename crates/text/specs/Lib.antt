pub mod Bytes
pub mod Text
