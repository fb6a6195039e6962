pub mod Sum
pub mod Allowed
