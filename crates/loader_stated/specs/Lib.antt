pub mod Stated
pub mod Taken
pub mod Cases
