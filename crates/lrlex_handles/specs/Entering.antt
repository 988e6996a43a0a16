-- Where a text enters the start state in which it ends, as C reads it.
use Rattle.std.specs.Prelude.{◌≡◌, ℕ, ◌+◌, List, unwrap_or, MatchOption}
use Rattle.std.specs.declared.option.Option.{Option}
use Rattle.lrlex_boundaries.specs.Boundaries.{Boundary, boundary_at}
use Rattle.lrlex_rules.specs.Definition.{Definition}
use Rattle.lrlex.specs.Entering.{AllKeepEnd, IsEntering}
use Rattle.lrlex.specs.LexRun.{end_state_of}
use Rattle.lrlex.specs.Reach.{IsRun}
use Rattle.lrlex.specs.Tiling.{Item}
use Rattle.lrlex_handles.specs.declared.structs.Entered.{Entered}

-- the bytes of a tile, and the start state at the end
abbrev pub entered_at : List Boundary → (tile : ℕ) → Entered
entered_at bounds tile = record { start = (boundary_at bounds tile).place; end = (boundary_at bounds (tile + 1)).place; state = unwrap_or (end_state_of bounds) 0 }

-- that tile entered it
pub record IsEnteredAt (bounds : List Boundary) (at : Entered) : Type 0 where
  pub tile : ℕ
  pub entering : IsEntering bounds tile
  pub at-is : at ≡ entered_at bounds tile

-- where the one run of the definition on the text enters it, or nothing: it begins in it, and no tile leaves it
pub record IsEntered (d : Definition) (text : List ℕ) (at : Option Entered) : Type 0 where
  pub found : List Item
  pub bounds : List Boundary
  pub run : IsRun d text found bounds
  pub where-is : MatchOption at (AllKeepEnd bounds) (IsEnteredAt bounds)
