pub mod Lists
pub mod Inward
pub mod Outward
pub mod Hands
