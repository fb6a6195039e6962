pub mod Order
pub mod Through
