pub mod Imports
mod HexLemmas
mod PartLemmas
pub mod ClassLemmas
pub mod PlainLemmas
pub mod ReadingLemmas
mod DateLemmas
mod ShowLemmas
pub mod TopLineLemmas
mod TableLemmas
mod StandInLemmas
pub mod DenialLemmas
mod ScanLemmas
mod PassedLemmas
mod ReasonLemmas
mod HostLemmas
pub mod FingerprintLemmas
