pub mod Register
pub mod Limit
