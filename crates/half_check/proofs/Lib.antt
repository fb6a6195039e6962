pub mod Contract
pub mod Promises
pub mod Square
pub mod Example
