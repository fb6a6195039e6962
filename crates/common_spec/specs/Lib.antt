pub mod Proposals
pub mod Ends
pub mod Answer
pub mod Stated
pub mod Promised
pub mod Agree
pub mod Cases
