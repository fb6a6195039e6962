pub mod Unknowns
pub mod Existence
