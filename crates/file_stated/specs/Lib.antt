pub mod Stated
pub mod Cases
