pub mod ReplyIs
pub mod Builds
