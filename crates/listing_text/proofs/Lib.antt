pub mod Wrote
pub mod Each
