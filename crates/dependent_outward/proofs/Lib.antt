pub mod Heights
pub mod Instance
