pub mod CommandLemmas
pub mod EngineLemmas
pub mod FirstPassLemmas
pub mod LineLemmas
pub mod NumberLemmas
pub mod SecondPassLemmas
pub mod SplitLemmas
pub mod WritingLemmas
