pub mod Orders
pub mod Serving
