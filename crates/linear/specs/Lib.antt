pub mod Matrix
pub mod Slice
pub mod Place
pub mod Reach
pub mod Written
