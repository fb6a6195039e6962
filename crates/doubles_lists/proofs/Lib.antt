pub mod Inward
pub mod Outward
pub mod Unread
pub mod Promises
pub mod Enclosed
pub mod Taken
pub mod Instance
