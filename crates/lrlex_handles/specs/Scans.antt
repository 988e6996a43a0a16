-- What a scanner gives in one call.
use Rattle.std.specs.Prelude.{◌≡◌, ℕ, ◌-◌, ◌≤◌, List, [], ◌∷◌, length, is_some, unwrap_or, MatchOption}
use Rattle.std.specs.declared.option.Option.{Option}
use Rattle.std.specs.declared.option.Option.TheVariants.{None, Some}
use Rattle.lrlex_base.specs.Spans.{span_start, span_end}
use Rattle.lrlex_rules.specs.RuleParts.{state_number}
use Rattle.lrlex.specs.Scanner.{EndsBy, IsStep, Scanned, past}
use Rattle.lrlex.specs.declared.lexing.scanner.ScannedTile.{ScannedTile}
use Rattle.lrlex.specs.declared.lexing.scanner.ScanEnd.{ScanEnd}
use Rattle.lrlex.specs.declared.lexing.scanner.ScanEnd.TheVariants.{Done, NoMatch, NoId, NoTarget, NoState}
use Rattle.lrlex.specs.declared.lexing.scanner.Step.TheVariants.{Tile as Found}
use Rattle.lrlex_handles.specs.Buffers.{filled}
use Rattle.lrlex_handles.specs.declared.structs.Scanned as told
use Rattle.lrlex_handles.specs.declared.structs.Tile.{Tile}

-- a tile, as C reads it
abbrev pub tile_by : ScannedTile ℕ → Tile
tile_by x = record {
  start = span_start x.span;
  len = span_end x.span - span_start x.span;
  rule = x.rule;
  id = unwrap_or x.id 0;
  has_id = is_some x.id;
}

-- why no more tiles come, by its number, with the start state in which no rule matches or the rule that ends all
abbrev pub told_by : (count place : ℕ) → Option (ScanEnd ℕ) → told.Scanned
told_by n p None = record { count = n; place = p; state = 0; rule = 0; end = 0 }
told_by n p (Some Done) = record { count = n; place = p; state = 0; rule = 0; end = 1 }
told_by n p (Some (NoMatch q)) = record { count = n; place = p; state = state_number q; rule = 0; end = 2 }
told_by n p (Some (NoId k)) = record { count = n; place = p; state = 0; rule = k; end = 3 }
told_by n p (Some (NoTarget x)) = record { count = n; place = p; state = 0; rule = x.rule; end = 4 }
told_by n p (Some NoState) = record { count = n; place = p; state = 0; rule = 0; end = 5 }

-- these tiles, one step after the other, lead a scanner from s to t
abbrev pub LeadTo : Scanned → List (ScannedTile ℕ) → Scanned → Type 0
LeadTo s [] t = t ≡ s
LeadTo s (x ∷ xs) t = IsStep (λ n. n) s (Found x) × LeadTo (past s x) xs t

-- The scanner's next tiles are in the buffer: as many as there is room for, or those before an end, and why that is one.
pub record AreNext (old : Scanned) (room tiles : List Tile) (out : told.Scanned) (new : Scanned) : Type 0 where
  pub found : List (ScannedTile ℕ)
  pub end : Option (ScanEnd ℕ)
  pub steps : LeadTo old found new
  pub within : length found ≤ length room
  pub ends : MatchOption end (length found ≡ length room) (EndsBy (λ n. n) new)
  pub tiles-are : tiles ≡ filled (λ x _. tile_by x) found room
  pub out-is : out ≡ told_by (length found) new.place end

-- the same of what a handle holds before and after
abbrev pub WasScanned : (room tiles : List Tile) → told.Scanned → Option Scanned → Option Scanned → Type 0
WasScanned room tiles out None new = ⊥
WasScanned room tiles out (Some s) None = ⊥
WasScanned room tiles out (Some s) (Some t) = AreNext s room tiles out t
