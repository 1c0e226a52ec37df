pub mod Imports
mod WordLemmas
mod KeptLemmas
mod TakingLemmas
mod Reading
mod PartReading
mod LineReading
mod ValueLemmas
pub mod PieceLemmas
mod SeekerLemmas
mod SeekingLemmas
pub mod SourceLemmas
pub mod TurnLemmas
