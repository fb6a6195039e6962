pub mod Loads
pub mod ZeroSearch
