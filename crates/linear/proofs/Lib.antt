pub mod Product
pub mod Carried
pub mod Slices
pub mod Places
pub mod Slack
pub mod Written
