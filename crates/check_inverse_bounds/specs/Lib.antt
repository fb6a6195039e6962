pub mod SymmetricRows
