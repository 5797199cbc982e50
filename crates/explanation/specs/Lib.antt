pub mod Explanation
pub mod Cleared
pub mod Inner
