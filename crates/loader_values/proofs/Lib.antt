pub mod Between
pub mod Capped
