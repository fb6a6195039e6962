pub mod Wrote
pub mod Line
