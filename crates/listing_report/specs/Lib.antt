pub mod Report
pub mod Ready
pub mod ShownReport
