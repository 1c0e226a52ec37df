pub mod Answered
pub mod Asked
pub mod Decided
pub mod Samples
pub mod Reported
