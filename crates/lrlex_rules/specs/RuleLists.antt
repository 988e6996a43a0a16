-- Start states by their places, and lists of rules by theirs.
use Rattle.std.specs.Prelude.{◌≡◌, ℕ, ◌<◌, List, [], map, Some, All, Vec, slice_get, slice_index_or}
use Rattle.std.specs.declared.alloc.Global.{Global}
use Rattle.lrlex_rules.specs.RuleParts.{as_state}
use Rattle.lrlex_rules.specs.declared.states.StartState as start

-- the id of each state is its place
abbrev pub ArePlaced : List start.StartState → Type 0
ArePlaced states = (i : ℕ) (s : start.StartState) → slice_get states i ≡ Some s → (as_state s).id ≡ i

-- the list at a place
abbrev pub list_in : List (List ℕ) → ℕ → List ℕ
list_in lists j = slice_index_or lists j []

-- the lists at these places
abbrev pub lists_at : List (Vec ℕ Global) → List ℕ → List (List ℕ)
lists_at lists at = map (list_in (map (λ v. v.items) lists)) at

-- the lists hold only what is below the number
abbrev pub AreBelow : ℕ → List (List ℕ) → Type 0
AreBelow n lists = (i : ℕ) → All (λ k. k < n) (list_in lists i)
