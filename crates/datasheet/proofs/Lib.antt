pub mod Masks
pub mod Parity
pub mod WorkedExample
