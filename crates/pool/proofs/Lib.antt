pub mod Cells
pub mod Once
pub mod OnceChained
pub mod Pinned
pub mod Standing
