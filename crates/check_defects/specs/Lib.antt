pub mod Sums
pub mod Difference
