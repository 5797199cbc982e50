pub mod Needed
pub mod Answer
pub mod Inner
