pub mod Progress
pub mod Ungiven
pub mod Before
