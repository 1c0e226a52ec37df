pub mod Imports
pub mod NamedLemmas
pub mod VouchingLemmas
pub mod ClaimLaw
pub mod ClaimReading
