pub mod AlternativeLemmas
pub mod CaretLemmas
pub mod CharCountLemmas
pub mod ClassLemmas
pub mod FaultLemmas
pub mod PlaceLemmas
pub mod RangeLemmas
pub mod StateLemmas
