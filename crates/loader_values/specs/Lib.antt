pub mod Item
pub mod Capped
