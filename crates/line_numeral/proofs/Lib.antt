pub mod Places
pub mod Decimal
pub mod Digits
pub mod Spelling
pub mod Steps
pub mod Cap
