pub mod Text
pub mod Kept
pub mod Scan
pub mod Pieces
pub mod Samples
