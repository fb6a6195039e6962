pub mod Rows
pub mod SymmetricMatrix
