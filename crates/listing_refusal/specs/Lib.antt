pub mod Refused
pub mod Reply
pub mod Answered
