pub mod KindLemmas
pub mod MarkLemmas
pub mod MostLemmas
pub mod Parted
pub mod RowKindLemmas
pub mod ServedLemmas
pub mod TableLemmas
pub mod NeverLemmas
