pub mod Answer
pub mod Taken
pub mod Decided
pub mod Before
