pub mod HostAdmission
pub mod Judged
pub mod Revocation
pub mod Verdict
pub mod Turns
pub mod Samples
