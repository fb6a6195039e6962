pub mod Terms
pub mod Rows
pub mod Places
pub mod Layouts
