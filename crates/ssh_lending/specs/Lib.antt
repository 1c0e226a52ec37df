pub mod Lending
pub mod Samples
