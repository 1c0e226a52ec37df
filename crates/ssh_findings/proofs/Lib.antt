pub mod Imports
pub mod SizeLemmas
pub mod FactLemmas
pub mod ListLemmas
pub mod ShadowLemmas
pub mod KeepingLemmas
pub mod SpareLemmas
pub mod KeyReadLemmas
pub mod TextKeys
pub mod LeastLemmas
pub mod EarlierLemmas
pub mod NameLemmas
pub mod LawLemmas
pub mod SumLemmas
mod HeldKeysLeastLemmas
mod StandsLemmas
pub mod RowLemmas
pub mod PlaceLemmas
pub mod SeekLemmas
pub mod EntryLemmas
pub mod CodeCountLemmas
mod PlacedLemmas
