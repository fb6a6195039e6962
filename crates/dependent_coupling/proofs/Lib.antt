pub mod Rows
pub mod Cap
pub mod Parts
