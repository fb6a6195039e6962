pub mod Unbiasing
pub mod Filling
pub mod Standing
