pub mod Halves
pub mod Sums
pub mod Product
