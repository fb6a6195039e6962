pub mod File
pub mod Numbers
pub mod Converted
pub mod Edition
pub mod Stated
pub mod Promised
pub mod Cases
