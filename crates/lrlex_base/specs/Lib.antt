pub mod Classes
pub mod Spans
pub mod Places
pub mod Edits
pub mod LexemeParts
pub mod Lexemes
pub mod Items
