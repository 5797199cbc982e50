pub mod Fitting
pub mod Room
