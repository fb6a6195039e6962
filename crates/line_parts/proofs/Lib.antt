pub mod Refusals
pub mod Whole
