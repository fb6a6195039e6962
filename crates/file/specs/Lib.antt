pub mod Read
pub mod Feeds
