use Rattle.std.proofs.Common.{◌≡◌, ℕ, ◌<◌, ◌++◌, ◌∷◌, ◌==◌, [], cond, length, map, take}
use Rattle.std.specs.List.{list_any}
use Rattle.lrlex_rules.specs.RuleLists.{list_in}
use Rattle.lrlex_rules.proofs.active.note_place.Given as goal

abbrev pub invariant-ids : goal.invariant-ids
invariant-ids l = record {
  kept : length l.lists ≡ length l.fn.lists;
  noted : (i : ℕ) → i < length l.fn.lists → list_in (map (λ v. v.items) l.lists) i
      ≡ list_in (map (λ v. v.items) l.fn.lists) i ++ cond (list_any (λ s. s == i) (take l.id-index l.ids)) (l.place ∷ []) [];
}
