pub mod Range
pub mod Refusal
pub mod Order
pub mod Which
