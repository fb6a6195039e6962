pub mod Sequence
pub mod Cases
pub mod Request
pub mod Search
pub mod Promised
