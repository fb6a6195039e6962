pub mod Magnitudes
pub mod Allowed
