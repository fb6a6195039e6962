pub mod Good
pub mod Instance
