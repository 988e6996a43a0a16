use Rattle.std.proofs.Common.{◌≡◌, ℕ, List, take}
use Rattle.lrlex.specs.Ids.{ids_of}
use Rattle.lrlex_handles.specs.NamedIds.{id_by}
use Rattle.lrlex_handles.proofs.ids.map_of.Given as goal

-- the map has the ids of the entries so far
abbrev pub invariant-loop-entry : goal.invariant-loop-entry
invariant-loop-entry l = (name : List ℕ) → ids_of (λ n. n) l.known name ≡ id_by (take l.entry-index l.ids) name
