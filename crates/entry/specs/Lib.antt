pub mod Entry
pub mod Limit
pub mod Register
