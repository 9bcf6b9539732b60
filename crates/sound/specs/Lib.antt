pub mod Judged
pub mod Links
pub mod Met
pub mod Part
