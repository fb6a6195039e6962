pub mod Written
pub mod Rows
pub mod SymmetricMatrix
pub mod Places
pub mod Limits
pub mod Outcome
pub mod Handed
