pub mod Refusals
pub mod Format
