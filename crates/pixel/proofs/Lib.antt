pub mod Rising
pub mod Chosen
pub mod Sameness
pub mod Exactly
pub mod Decoder
pub mod Promises
