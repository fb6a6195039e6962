pub mod Lists
pub mod TwoNets
pub mod Example
