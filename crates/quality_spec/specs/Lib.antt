pub mod Peak
pub mod Inquiry
pub mod Answer
pub mod Stated
pub mod Cases
