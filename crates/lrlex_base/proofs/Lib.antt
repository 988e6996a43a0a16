pub mod NewlineEditLemmas
pub mod NewlineLemmas
