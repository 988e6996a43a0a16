pub mod StretchLemmas
pub mod ArenaLemmas
pub mod SliceLemmas
pub mod PairLemmas
pub mod EnteringLemmas
pub mod RoomLemmas
