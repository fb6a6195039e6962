pub mod Held
pub mod Handed
