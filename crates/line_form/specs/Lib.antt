pub mod Form
pub mod Spelling
pub mod Reading
pub mod List
pub mod ListAt
