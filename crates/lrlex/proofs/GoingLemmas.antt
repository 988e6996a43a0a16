-- A run of the new text that stands at a safe boundary of the old one.
use Rattle.std.proofs.Common.{◌≡◌, ℕ, ◌+◌, ◌-◌, ◌<◌, ◌≤◌, true, List, length, take, get_or, sym, ap, subst, arith}
use Rattle.std.specs.List.Sorted.{IsPartitionedBy}
use Rattle.std.proofs.lemmas.Option.{slice_get-get_or}
use Rattle.std.proofs.lemmas.List.{length-take-le, take-take}
use Rattle.lrlex_base.specs.Spans.{span}
use Rattle.lrlex_base.specs.Edits.{edited}
use Rattle.lrlex_rules.specs.Definition.{Definition}
use Rattle.lrlex_table.specs.Reach.{IsText}
use Rattle.lrlex_rules.specs.Active.{is_state}
use Rattle.lrlex_rules.specs.Tiling.{Item}
use Rattle.lrlex_boundaries.specs.Boundaries.{Boundary, no_boundary, boundary_at}
use Rattle.lrlex.specs.Moves.{begins_before}
use Rattle.lrlex.specs.Reach.{IsLexed}
use Rattle.lrlex.specs.Lookahead.{IsDecidedAt, AreDecided, LooksAhead, IsSafe, HasLooked, GoesOn}
use Rattle.lrlex.proofs.PeakLemmas.{tiles_are}
use Rattle.lrlex.proofs.SpliceLemmas.{AtBoundary, in_order}
use Rattle.lrlex.proofs.ResumeLemmas.{alike-edited, first_boundary, goes_on_from}
use Rattle.lrlex.proofs.DecidedLemmas.{decided_safe, decided_kept}
use Rattle.lrlex.proofs.LookaheadLemmas.{looks_kept}

-- an old run has a boundary
pub some_boundary : (d : Definition) (text : List ℕ) (found : List Item) (bounds : List Boundary) → IsLexed d text found bounds → 0 < length bounds
some_boundary d text found bounds h = omega (arith, tiles_are d text found bounds h)

-- its items are in order round each boundary
pub order_at : (d : Definition) (text : List ℕ) (found : List Item) (bounds : List Boundary) (h : IsLexed d text found bounds) (k : ℕ) → k < length bounds →
    IsPartitionedBy (begins_before (boundary_at bounds k).place) found
order_at d text found bounds h k lt =
    let b : AtBoundary d text h.cut h.end found bounds k (boundary_at bounds k) =
    record { tiling = h.tiling; items_are = h.items_are; boundaries_are = h.boundaries_are; at = slice_get-get_or bounds k no_boundary lt } in
    in_order d text h.cut h.end found bounds k (boundary_at bounds k) b

module _ (d : Definition) (old new put : List ℕ) (low high : ℕ) (found : List Item) (bounds : List Boundary) (numbers : List ℕ) (initial : is_state d 0 ≡ true) (is : IsText new)
    (le : low ≤ length old) (gives : new ≡ edited old (span low high) put) (h : IsLexed d old found bounds) (looks : LooksAhead d old bounds numbers) where
  alike : take low new ≡ take low old
  alike = alike-edited old new put low high le gives

  -- the first boundary is safe for every edit
  pub first_safe : IsSafe bounds numbers low 0
  first_safe =
      let place : (boundary_at bounds 0).place ≡ 0 = ap (λ (b : ℕ × List ℕ). b.0) (first_boundary d old new low found bounds h is alike initial (some_boundary d old found bounds h)) in
      record { known = omega (arith, looks.first); before = omega (arith, looks.first, place) }

  module _ (k : ℕ) (within : k < length bounds) (safe : IsSafe bounds numbers low k) where
    pub going : GoesOn d new found bounds k
    going = goes_on_from d old new low found bounds h is alike initial k within (decided_safe d old bounds numbers low k looks within safe)

    front_len : length (take (k + 1) bounds) ≡ k + 1
    front_len = length-take-le (k + 1) bounds (omega arith)

    pub going_looked : (lookahead : ℕ) → lookahead ≡ get_or numbers k 0 → HasLooked d new (take (k + 1) bounds) (take (k + 1) numbers) (boundary_at bounds k).place lookahead
    going_looked lookahead over_is =
        let far : ℕ = (boundary_at bounds k).place + get_or numbers k 0 in
        let to : far ≡ (boundary_at bounds k).place + lookahead = omega (arith, over_is) in
        let at : k ≡ length (take (k + 1) bounds) - 1 = omega (arith, front_len) in
        let kept : AreDecided d new bounds k far = decided_kept d old new low found bounds h is alike initial k far within safe.before (looks.decided k within safe.known) in
        let P = IsDecidedAt d new far in
        let shorter : AreDecided d new (take (k + 1) bounds) k far = subst (λ (ms : List Boundary). (j : ℕ) (x : Boundary) → j < length ms → P (get_or ms j x)) (sym (take-take k (k + 1) bounds (omega arith))) kept in
        record {
          looks = looks_kept d old new low found bounds h is alike initial numbers k within looks safe;
          all = subst (λ n. AreDecided d new (take (k + 1) bounds) n ((boundary_at bounds k).place + lookahead)) at (subst (λ i. AreDecided d new (take (k + 1) bounds) k i) to shorter);
        }
