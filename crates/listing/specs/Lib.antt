pub mod Listing
pub mod Complete
pub mod Answers
pub mod Cases
pub mod LeftOut
