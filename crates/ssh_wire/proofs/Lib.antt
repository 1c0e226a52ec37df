pub mod Imports
pub mod MpintLemmas
pub mod RowLemmas
