pub mod Cases
pub mod Peak
pub mod Contract
pub mod Promises
pub mod Unread
pub mod Limits
