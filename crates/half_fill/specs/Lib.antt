pub mod Half
pub mod Cases
