pub mod Places
pub mod KeptBytes
pub mod Unread
pub mod Colours
pub mod ColourSamples
