pub mod Lists
pub mod File
pub mod Calls
pub mod TwoNets
pub mod Example
