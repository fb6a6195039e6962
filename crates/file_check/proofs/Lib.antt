pub mod Agreed
pub mod Forms
pub mod Shown
