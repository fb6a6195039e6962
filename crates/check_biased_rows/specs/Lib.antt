pub mod Biased
pub mod Place
