pub mod Finite
pub mod Quotient
pub mod LargestRatio
pub mod Same
pub mod SignedParts
pub mod Among
