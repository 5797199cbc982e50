-- What the contracts of inner functions alone cite: no promise to a user of the library rests on it.
pub mod Rows
pub mod Sums
