pub mod Filled
pub mod Put
pub mod Slot
pub mod Lists
pub mod Exact
