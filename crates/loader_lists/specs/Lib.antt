pub mod Span
pub mod Slot
pub mod Lists
pub mod ListOf
pub mod Put
pub mod Pasted
