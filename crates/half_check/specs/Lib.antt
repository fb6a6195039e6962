pub mod Checked
pub mod Stated
pub mod Example
