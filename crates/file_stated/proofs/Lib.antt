pub mod Taken
pub mod Stated
pub mod Cases
