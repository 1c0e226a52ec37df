pub mod Imports
pub mod HostAdmissionLemmas
pub mod RevocationLemmas
pub mod KeyPieceLemmas
