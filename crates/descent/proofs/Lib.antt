pub mod Back
pub mod Digits
pub mod Down
