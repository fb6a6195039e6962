pub mod Fronts
pub mod Ratios
pub mod WithinCaps
