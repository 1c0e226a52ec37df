pub mod Imports
pub mod RightsLemmas
pub mod RightsLaw
pub mod SpareLemmas
