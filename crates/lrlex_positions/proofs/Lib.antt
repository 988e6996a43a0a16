pub mod Utf16Lemmas
pub mod ColumnLemmas
pub mod LineLemmas
pub mod PositionLemmas
pub mod LineCursorLemmas
