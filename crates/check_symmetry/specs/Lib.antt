pub mod Symmetric
