pub mod Each
pub mod Held
pub mod Whole
