pub mod Walked
pub mod Sizes
pub mod Bound
pub mod Glance
pub mod Before
pub mod Meaning
pub mod Single
