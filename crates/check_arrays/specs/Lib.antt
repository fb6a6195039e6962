pub mod Arrays
pub mod Rows
pub mod Parts
