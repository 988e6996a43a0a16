-- How the numbers that tell how far the tiles looked grow with a run, and what an edit leaves of them.
use Rattle.std.proofs.Common.{◌≡◌, ℕ, ◌+◌, ◌-◌, ◌<◌, ◌≤◌, true, max, List, [], ◌∷◌, ◌++◌, length, take, drop, get_or, refl, sym, ap, ◌∙◌, subst, inl, inr, arith, length-append}
use Rattle.std.proofs.Props.{props}
use Rattle.std.proofs.Math.Logic.{∥∥₁_elim}
use Rattle.std.proofs.lemmas.Bool.{cases_lt}
use Rattle.std.proofs.lemmas.List.{length-take-le, get_or-take, get_or_append_left, get_or_at, take-take, take-append-le, take_more}
use Rattle.std.proofs.lemmas.List.Elements.{All-push, All-take}
use Rattle.lrlex_rules.specs.Definition.{Definition}
use Rattle.lrlex_table.specs.Reach.{IsText}
use Rattle.lrlex_rules.specs.Active.{is_state}
use Rattle.lrlex_rules.specs.Tiling.{Item, top}
use Rattle.lrlex_boundaries.specs.Entries.{plain}
use Rattle.lrlex_boundaries.specs.Boundaries.{Boundary, no_boundary, boundary_at}
use Rattle.lrlex.specs.Reach.{IsLexed}
use Rattle.lrlex.specs.Lookahead.{IsDecided, IsDecidedAt, AreDecided, LooksAhead, IsSafe, HasLooked, capped}
use Rattle.lrlex.proofs.DecidedLemmas.{decided_more, decided_kept}

module _ (d : Definition) (text : List ℕ) where
  pub at_more : (m : Boundary) (far to : ℕ) → far ≤ to → IsDecidedAt d text far m → IsDecidedAt d text to m
  at_more m far to le h = decided_more d (top (plain m.entries)) (drop m.place text) (far - m.place) (to - m.place) (omega arith) h

  pub all_more : (bounds : List Boundary) (k far to : ℕ) → far ≤ to → AreDecided d text bounds k far → AreDecided d text bounds k to
  all_more bounds k far to le h = λ i x lt. at_more (get_or (take k bounds) i x) far to le (h i x lt)

  pub all_fewer : (bounds : List Boundary) (i k far : ℕ) → i ≤ k → AreDecided d text bounds k far → AreDecided d text bounds i far
  all_fewer bounds i k far le h = let P = IsDecidedAt d text far in subst (λ (ms : List Boundary). (j : ℕ) (x : Boundary) → j < length ms → P (get_or ms j x)) (take-take i k bounds le) (All-take P i (take k bounds) h)

  pub all_longer : (bounds more : List Boundary) (k far : ℕ) → k ≤ length bounds → AreDecided d text bounds k far → AreDecided d text (bounds ++ more) k far
  all_longer bounds more k far le h = let P = IsDecidedAt d text far in subst (λ (ms : List Boundary). (j : ℕ) (x : Boundary) → j < length ms → P (get_or ms j x)) (sym (take-append-le k bounds more le)) h

  -- one tile more, which looks up to `at`
  pub all_step : (bounds : List Boundary) (k far at : ℕ) → k < length bounds → AreDecided d text bounds k far → IsDecidedAt d text at (boundary_at bounds k) → AreDecided d text bounds (k + 1) (max far at)
  all_step bounds k far at lt h one =
      let to : ℕ = max far at in
      let P = IsDecidedAt d text to in
      subst (λ (ms : List Boundary). (j : ℕ) (x : Boundary) → j < length ms → P (get_or ms j x)) (sym (take_more bounds k no_boundary lt))
      (All-push P (take k bounds) (boundary_at bounds k) (all_more bounds k far to (omega arith) h) (at_more (boundary_at bounds k) at to (omega arith) one))

  -- the first boundary
  pub looks_start : (m : Boundary) → LooksAhead d text (m ∷ []) (0 ∷ [])
  looks_start m = record {
    len = refl;
    first = refl;
    decided = λ k within known i x lt. absurd (omega (arith, within, lt, length-take-le k (m ∷ []) (omega arith)));
  }

  -- one boundary more, with a number that is 255 or goes as far as the tiles looked
  pub looks_more : (bounds : List Boundary) (ahead : List ℕ) (m : Boundary) (far n : ℕ) → 0 < length bounds → LooksAhead d text bounds ahead → AreDecided d text (bounds ++ m ∷ []) (length bounds) far →
      (n < 255 → far ≤ m.place + n) → LooksAhead d text (bounds ++ m ∷ []) (ahead ++ n ∷ [])
  looks_more bounds ahead m far n some looks all reaches = record {
    len = omega (arith, looks.len, length-append bounds (m ∷ []), length-append ahead (n ∷ []));
    first = get_or_append_left ahead (n ∷ []) 0 0 (omega (arith, looks.len)) ∙ looks.first;
    decided = λ k within known. elim (cases_lt k (length bounds)) [
      | inl lt ↦
          let number : get_or (ahead ++ n ∷ []) k 0 ≡ get_or ahead k 0 = get_or_append_left ahead (n ∷ []) 0 k (omega (arith, looks.len)) in
          let boundary : boundary_at (bounds ++ m ∷ []) k ≡ boundary_at bounds k = get_or_append_left bounds (m ∷ []) no_boundary k lt in
          let place : (boundary_at (bounds ++ m ∷ []) k).place ≡ (boundary_at bounds k).place = ap (λ (x : Boundary). x.place) boundary in
          all_more (bounds ++ m ∷ []) k ((boundary_at bounds k).place + get_or ahead k 0) ((boundary_at (bounds ++ m ∷ []) k).place + get_or (ahead ++ n ∷ []) k 0) (omega (arith, number, place))
          (all_longer bounds (m ∷ []) k ((boundary_at bounds k).place + get_or ahead k 0) (omega arith) (looks.decided k lt (omega (arith, number, known))))
      | inr ge ↦
          let last : length bounds ≡ k = omega (arith, within, length-append bounds (m ∷ [])) in
          let number : get_or (ahead ++ n ∷ []) k 0 ≡ n = get_or_at ahead n [] 0 k (omega (arith, looks.len)) in
          let place : (boundary_at (bounds ++ m ∷ []) k).place ≡ m.place = ap (λ (x : Boundary). x.place) (get_or_at bounds m [] no_boundary k last) in
          all_fewer (bounds ++ m ∷ []) k (length bounds) ((boundary_at (bounds ++ m ∷ []) k).place + get_or (ahead ++ n ∷ []) k 0) (omega arith)
          (all_more (bounds ++ m ∷ []) (length bounds) far ((boundary_at (bounds ++ m ∷ []) k).place + get_or (ahead ++ n ∷ []) k 0) (omega (arith, number, place, reaches (omega (arith, number, known)))) all)
    ];
  }

-- what stands up to a safe boundary keeps its numbers
pub looks_kept : (d : Definition) (old new : List ℕ) (low : ℕ) (found : List Item) (bounds : List Boundary) (h : IsLexed d old found bounds) → IsText new → take low new ≡ take low old → is_state d 0 ≡ true →
    (ahead : List ℕ) (k : ℕ) → k < length bounds → LooksAhead d old bounds ahead → IsSafe bounds ahead low k → LooksAhead d new (take (k + 1) bounds) (take (k + 1) ahead)
looks_kept d old new low found bounds h is alike initial ahead k within looks safe = record {
  first = get_or-take (k + 1) ahead 0 0 (omega arith) ∙ looks.first;
  len = omega (arith, looks.len, length-take-le (k + 1) bounds (omega arith), length-take-le (k + 1) ahead (omega (arith, looks.len)));
  decided = λ i inside known.
      let lt : i < k + 1 = omega (arith, inside, length-take-le (k + 1) bounds (omega arith)) in
      let far : ℕ = (boundary_at bounds k).place + get_or ahead k 0 in
      let place : (boundary_at (take (k + 1) bounds) i).place ≡ (boundary_at bounds i).place = ap (λ (x : Boundary). x.place) (get_or-take (k + 1) bounds i no_boundary lt) in
      let number : get_or (take (k + 1) ahead) i 0 ≡ get_or ahead i 0 = get_or-take (k + 1) ahead i 0 lt in
      let own : ℕ = (boundary_at bounds i).place + get_or ahead i 0 in
      let to : ℕ = (boundary_at (take (k + 1) bounds) i).place + get_or (take (k + 1) ahead) i 0 in
      let same : own ≤ to = omega (arith, place, number) in
      let kept : AreDecided d new bounds i to = elim (cases_lt low own) [
        | inl past ↦
            all_more d new bounds i far to (omega (arith, safe.before, same, past))
            (decided_kept d old new low found bounds h is alike initial i far (omega (arith, lt)) safe.before (all_fewer d old bounds i k far (omega (arith, lt)) (looks.decided k within safe.known)))
        | inr before ↦
            all_more d new bounds i own to same
            (decided_kept d old new low found bounds h is alike initial i own (omega (arith, lt)) before (looks.decided i (omega (arith, lt)) (omega (arith, number, known))))
      ] in
      let P = IsDecidedAt d new to in
      subst (λ (ms : List Boundary). (j : ℕ) (x : Boundary) → j < length ms → P (get_or ms j x)) (sym (take-take i (k + 1) bounds (omega (arith, lt)))) kept;
}

-- no boundary
pub looks_none : (d : Definition) (text : List ℕ) (bounds : List Boundary) (ahead : List ℕ) → bounds ≡ [] → ahead ≡ [] → LooksAhead d text bounds ahead
looks_none d text bounds ahead bare none = record {
  len = ap length none ∙ sym (ap length bare);
  first = ap (λ xs. get_or xs 0 0) none;
  decided = λ k lt known. absurd (omega (arith, ap length bare));
}

-- what is known to be there
pub looks_known : (d : Definition) (text : List ℕ) (bounds : List Boundary) (ahead : List ℕ) → ∥ LooksAhead d text bounds ahead ∥₁ → LooksAhead d text bounds ahead
looks_known d text bounds ahead t = ∥∥₁_elim t (Prim.hlevel props) (λ l. l)

-- ---- a run at its last boundary

pub looked_start : (d : Definition) (text : List ℕ) (m : Boundary) (place lookahead : ℕ) → HasLooked d text (m ∷ []) (0 ∷ []) place lookahead
looked_start d text m place lookahead = record { looks = looks_start d text m; all = λ i x lt. absurd (omega arith) }

-- one tile more
module _ (d : Definition) (text : List ℕ) (before bounds : List Boundary) (ahead : List ℕ) (place : ℕ) (stack : List (ℕ × ℕ)) (lookahead : ℕ)
    (kept : bounds ≡ before ++ record { place = place; entries = stack } ∷ []) (h : HasLooked d text bounds ahead place lookahead) where
  here : Boundary
  here = record { place = place; entries = stack }

  last_index : length before ≡ length bounds - 1
  unfolding here
  last_index = omega (arith, ap length kept, length-append before (here ∷ []))

  last_boundary : boundary_at bounds (length bounds - 1) ≡ here
  unfolding here
  last_boundary = ap (boundary_at bounds) (sym last_index) ∙ ap (λ ms. boundary_at ms (length before)) kept ∙ get_or_at before here [] no_boundary (length before) refl

  some : 0 < length bounds
  unfolding here
  some = omega (arith, ap length kept, length-append before (here ∷ []))

  past_all : (reach : ℕ) → IsDecided d (top (plain stack)) (drop place text) reach → AreDecided d text bounds (length bounds) (place + max lookahead reach)
  unfolding here
  past_all reach decided =
      let at : ℕ = place + reach in
      let rest : at - place ≡ reach = omega arith in
      let one : IsDecidedAt d text at (boundary_at bounds (length bounds - 1)) = subst (IsDecidedAt d text at) (sym last_boundary) (subst (IsDecided d (top (plain stack)) (drop place text)) (sym rest) decided) in
      let n : length bounds - 1 + 1 ≡ length bounds = omega (arith, some) in
      let to : max (place + lookahead) at ≤ place + max lookahead reach = omega arith in
      all_more d text bounds (length bounds) (max (place + lookahead) at) (place + max lookahead reach) to
      (subst (λ k. AreDecided d text bounds k (max (place + lookahead) at)) n (all_step d text bounds (length bounds - 1) (place + lookahead) at (omega (arith, some)) h.all one))

  pub looked_more : (reach len : ℕ) → IsDecided d (top (plain stack)) (drop place text) reach → (next : List (ℕ × ℕ)) (to n : ℕ) (after : List Boundary) (more : List ℕ) →
      to ≡ place + len → n ≡ max lookahead reach - len → after ≡ bounds ++ record { place = to; entries = next } ∷ [] → more ≡ ahead ++ capped n ∷ [] → HasLooked d text after more to n
  looked_more reach len decided next to n after more to_is n_is after_is more_is =
      let m : Boundary = record { place = to; entries = next } in
      let far : ℕ = place + max lookahead reach in
      let all : AreDecided d text (bounds ++ m ∷ []) (length bounds) far = all_longer d text bounds (m ∷ []) (length bounds) far (omega arith) (past_all reach decided) in
      let count : length bounds ≡ length (bounds ++ m ∷ []) - 1 = omega (arith, length-append bounds (m ∷ [])) in
      let made : HasLooked d text (bounds ++ m ∷ []) (ahead ++ capped n ∷ []) to n = record {
        looks = looks_more d text bounds ahead m far (capped n) some h.looks all (λ few. omega (arith, to_is, n_is));
        all = subst (λ k. AreDecided d text (bounds ++ m ∷ []) k (to + n)) count (all_more d text (bounds ++ m ∷ []) (length bounds) far (to + n) (omega (arith, to_is, n_is)) all);
      } in
      subst (λ ms. HasLooked d text ms more to n) (sym after_is) (subst (λ ns. HasLooked d text (bounds ++ m ∷ []) ns to n) (sym more_is) made)
