pub mod Length
pub mod Accepts
pub mod Forms
pub mod Runs
pub mod Text
pub mod Ones
