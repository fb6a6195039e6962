pub mod CodeLaws
pub mod Through
pub mod Heights
