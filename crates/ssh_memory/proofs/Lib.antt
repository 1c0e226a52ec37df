pub mod FirstNamedLemmas
pub mod RunLemmas
