pub mod Taken
pub mod Checked
