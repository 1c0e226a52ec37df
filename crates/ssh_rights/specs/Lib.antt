pub mod Rights
pub mod RightsOn
pub mod SecurityKeys
pub mod Samples
pub mod OptionSamples
