pub mod Order
pub mod Meaning
pub mod Behind
