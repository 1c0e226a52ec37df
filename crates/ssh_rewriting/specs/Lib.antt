pub mod Canonical
pub mod Facts
pub mod HashedFile
pub mod HashedNames
pub mod Bounded
pub mod CanonicalFile
pub mod Answer
pub mod Samples
