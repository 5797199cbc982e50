pub mod Terms
pub mod Failures
pub mod From
pub mod Bits
pub mod Promises
