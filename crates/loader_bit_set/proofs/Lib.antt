pub mod Places
pub mod Complement
