pub mod Filled
pub mod Magnitudes
pub mod Columns
