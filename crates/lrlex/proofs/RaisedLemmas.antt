-- The numbers of the boundaries that a run takes over from the old one.
use Rattle.std.proofs.Common.{◌≡◌, ℕ, ◌+◌, ◌-◌, ◌<◌, ◌≤◌, max, List, [], ◌∷◌, ◌++◌, length, map, take, drop, get_or, refl, sym, ap, ◌∙◌, subst, inl, inr, arith, length-append}
use Rattle.std.proofs.lemmas.Bool.{cases_lt}
use Rattle.std.proofs.lemmas.List.{length-take-le, length-drop, length-map, get_or-take, get_or_append_left, get_or-append_right, get_or-append-add, get_or_at, get_or-drop, get_or-map, take-append-le, drop-drop}
use Rattle.std.proofs.lemmas.List.Elements.{All-from_get_or}
use Rattle.std.proofs.Math.Seq.{take-append-add}
use Rattle.lrlex_rules.specs.Definition.{Definition}
use Rattle.lrlex_boundaries.specs.Boundaries.{Boundary, no_boundary, boundary_at}
use Rattle.lrlex_boundaries.specs.Moves.{moved_boundary, AreSorted}
use Rattle.lrlex.specs.Lookahead.{IsDecidedAt, AreDecided, LooksAhead, HasLooked, IsEnough, AreRaised, capped}
use Rattle.lrlex.proofs.DecidedLemmas.{decided_moved}
use Rattle.lrlex.proofs.LookaheadLemmas.{at_more, all_more, all_longer}

-- ---- the numbers, one by one

-- a number that is raised is enough
pub enough_raised : (bounds : List Boundary) (ahead : List ℕ) (j lookahead k n : ℕ) → AreSorted bounds → j < k → k < length bounds →
    n ≡ max (get_or ahead k 0) (capped (lookahead - ((boundary_at bounds k).place - (boundary_at bounds j).place))) → IsEnough bounds ahead j lookahead k n
enough_raised bounds ahead j lookahead k n sorted lt within is known = (omega (arith, is), omega (arith, is, known, sorted.rising j k lt within))

-- one that needn't be
pub enough_far : (bounds : List Boundary) (ahead : List ℕ) (j lookahead k : ℕ) → (boundary_at bounds j).place + lookahead < (boundary_at bounds k).place → IsEnough bounds ahead j lookahead k (get_or ahead k 0)
enough_far bounds ahead j lookahead k far known = (omega arith, omega (arith, far))

module _ (bounds : List Boundary) (ahead : List ℕ) (j lookahead : ℕ) (front : List ℕ) where
  -- numbers that are added
  pub raised_more : (end to : ℕ) (all more : List ℕ) → AreRaised bounds ahead j lookahead end front all → j < end → end + length more ≡ to →
      ((k : ℕ) → end ≤ k → k < to → IsEnough bounds ahead j lookahead k (get_or more (k - end) 0)) → AreRaised bounds ahead j lookahead to front (all ++ more)
  raised_more end to all more r past count enough = record {
    kept = take-append-le (length front) all more (omega (arith, r.len)) ∙ r.kept;
    len = omega (arith, r.len, length-append all more);
    each = λ k lt below. elim (cases_lt k end) [
      | inl old ↦ subst (IsEnough bounds ahead j lookahead k) (sym (get_or_append_left all more 0 ((length front + k) - (j + 1)) (omega (arith, r.len)))) (r.each k lt old)
      | inr new ↦
          let at : ((length front + k) - (j + 1)) - length all ≡ k - end = omega (arith, r.len) in
          let here : get_or (all ++ more) ((length front + k) - (j + 1)) 0 ≡ get_or more (k - end) 0 =
          get_or-append_right all more (length all) ((length front + k) - (j + 1)) 0 refl (omega (arith, r.len)) ∙ ap (λ i. get_or more i 0) at in
          subst (IsEnough bounds ahead j lookahead k) (sym here) (enough k new below)
    ];
  }

  -- one that is raised
  pub raised_push : (end : ℕ) (all : List ℕ) (n : ℕ) → AreRaised bounds ahead j lookahead end front all → j < end → IsEnough bounds ahead j lookahead end n → AreRaised bounds ahead j lookahead (end + 1) front (all ++ n ∷ [])
  raised_push end all n r past enough = raised_more end (end + 1) all (n ∷ []) r past refl (λ k ge lt.
      let here : end ≡ k = omega arith in
      let none : 0 ≡ k - end = omega arith in
      subst (λ i. IsEnough bounds ahead j lookahead i (get_or (n ∷ []) (k - end) 0)) here (subst (λ i. IsEnough bounds ahead j lookahead end (get_or (n ∷ []) i 0)) none enough))

  -- the others as they are
  pub raised_rest : (end : ℕ) (all : List ℕ) → AreRaised bounds ahead j lookahead end front all → j < end → end ≤ length bounds → length ahead ≡ length bounds →
      ((k : ℕ) → end ≤ k → k < length bounds → (boundary_at bounds j).place + lookahead < (boundary_at bounds k).place) → AreRaised bounds ahead j lookahead (length bounds) front (all ++ drop end ahead)
  raised_rest end all r past le count far = raised_more end (length bounds) all (drop end ahead) r past (omega (arith, length-drop end ahead)) (λ k ge lt.
      let at : end + (k - end) ≡ k = omega arith in
      let number : get_or ahead k 0 ≡ get_or (drop end ahead) (k - end) 0 = sym (get_or-drop end ahead (k - end) 0 ∙ ap (λ i. get_or ahead i 0) at) in
      subst (IsEnough bounds ahead j lookahead k) number (enough_far bounds ahead j lookahead k (far k ge lt)))

  -- with numbers in front of all
  pub raised_behind : (before : List ℕ) (end : ℕ) (all : List ℕ) → AreRaised bounds ahead j lookahead end front all → AreRaised bounds ahead j lookahead end (before ++ front) (before ++ all)
  raised_behind before end all r =
      let long = length-append before front in
      record {
        kept = ap (λ n. take n (before ++ all)) long ∙ take-append-add before all (length front) ∙ ap (λ xs. before ++ xs) r.kept;
        len = omega (arith, r.len, long, length-append before all);
        each = λ k lt below.
            let at : length before + ((length front + k) - (j + 1)) ≡ (length (before ++ front) + k) - (j + 1) = omega arith in
            let here : get_or all ((length front + k) - (j + 1)) 0 ≡ get_or (before ++ all) ((length (before ++ front) + k) - (j + 1)) 0 =
            sym (get_or-append-add before all ((length front + k) - (j + 1)) 0) ∙ ap (λ i. get_or (before ++ all) i 0) at in
            subst (IsEnough bounds ahead j lookahead k) here (r.each k lt below);
      }

-- ---- the run that takes over

module _ (d : Definition) (old new : List ℕ) (olds : List Boundary) (numbers : List ℕ) (known : LooksAhead d old olds numbers) (sorted : AreSorted olds)
    (before bounds : List Boundary) (ahead : List ℕ) (place : ℕ) (stack : List (ℕ × ℕ)) (lookahead : ℕ) (kept : bounds ≡ before ++ record { place = place; entries = stack } ∷ [])
    (h : HasLooked d new bounds ahead place lookahead) (j : ℕ) (within : j < length olds) (same : drop (boundary_at olds j).place old ≡ drop place new)
    (stacks : (boundary_at olds j).entries ≡ stack) (all : List ℕ) (raised : AreRaised olds numbers j lookahead (length olds) ahead all) where
  from : ℕ
  from = (boundary_at olds j).place

  tail : List Boundary
  tail = map (moved_boundary from place) (drop (j + 1) olds)

  count : length bounds ≡ length before + 1
  count = omega (arith, ap length kept, length-append before (record { place = place; entries = stack } ∷ []))

  tail_len : length tail ≡ length olds - (j + 1)
  unfolding tail
  tail_len = length-map (drop (j + 1) olds) (moved_boundary from place) ∙ length-drop (j + 1) olds

  -- the boundaries from the meeting on are old ones, moved
  old_at : (i : ℕ) → length before ≤ i → i < length bounds + length tail → boundary_at (bounds ++ tail) i ≡ moved_boundary from place (boundary_at olds ((j + i) - length before))
  unfolding from tail
  old_at i ge lt = elim (cases_lt i (length bounds)) [
    | inl last ↦
        let e : length before ≡ i = omega (arith, count) in
        let at : j ≡ (j + i) - length before = omega arith in
        let here : (from + place) - from ≡ place = omega arith in
        get_or_append_left bounds tail no_boundary i last ∙ ap (λ ms. boundary_at ms i) kept ∙ get_or_at before (record { place = place; entries = stack }) [] no_boundary i e
        ∙ ap (λ p. record { place = p; entries = stack }) (sym here) ∙ ap (λ rs. record { place = (from + place) - from; entries = rs }) (sym stacks)
        ∙ ap (λ k. moved_boundary from place (boundary_at olds k)) at
    | inr behind ↦
        let k : ℕ = i - length bounds in
        let at : (j + 1) + k ≡ (j + i) - length before = omega (arith, count) in
        get_or-append_right bounds tail (length bounds) i no_boundary refl behind
        ∙ get_or-map (moved_boundary from place) (drop (j + 1) olds) k no_boundary no_boundary (omega (arith, length-drop (j + 1) olds, tail_len))
        ∙ ap (moved_boundary from place) (get_or-drop (j + 1) olds k no_boundary ∙ ap (boundary_at olds) at)
  ]

  not_before : (o : ℕ) → j ≤ o → o < length olds → from ≤ (boundary_at olds o).place
  unfolding from
  not_before o le lt = elim (cases_lt j o) [
    | inl behind ↦ omega (arith, sorted.rising j o behind lt)
    | inr here ↦ let e : j ≡ o = omega arith in omega (arith, ap (λ i. (boundary_at olds i).place) e)
  ]

  moved_rest : (o : ℕ) → j ≤ o → o < length olds → drop (boundary_at olds o).place old ≡ drop (((boundary_at olds o).place + place) - from) new
  unfolding from
  moved_rest o le lt =
      let p = (boundary_at olds o).place in
      let x : ℕ = p - from in
      let low = not_before o le lt in
      let first : from + x ≡ p = omega arith in
      let last : place + x ≡ (p + place) - from = omega arith in
      ap (λ i. drop i old) (sym first) ∙ sym (drop-drop x from old) ∙ ap (drop x) same ∙ drop-drop x place new ∙ ap (λ i. drop i new) last

  module _ (k : ℕ) (new_k : length bounds ≤ k) (lt : k < length (bounds ++ tail)) (few : get_or all k 0 < 255) where
    o : ℕ
    o = (j + k) - length before

    o_behind : j < o
    unfolding o
    o_behind = omega (arith, count)

    o_within : o < length olds
    unfolding o
    o_within = omega (arith, count, tail_len, length-append bounds tail)

    enough : (get_or numbers o 0 ≤ get_or all k 0) × (from + lookahead ≤ (boundary_at olds o).place + get_or all k 0)
    unfolding o from
    enough =
        let at : (length ahead + o) - (j + 1) ≡ k = omega (arith, count, h.looks.len) in
        (subst (λ i. IsEnough olds numbers j lookahead o (get_or all i 0)) at (raised.each o o_behind o_within)) few

    far : ℕ
    far = (boundary_at (bounds ++ tail) k).place + get_or all k 0

    place_k : (boundary_at (bounds ++ tail) k).place ≡ ((boundary_at olds o).place + place) - from
    unfolding o
    place_k = ap (λ (m : Boundary). m.place) (old_at k (omega (arith, count)) (omega (arith, length-append bounds tail)))

    -- what the new run cut
    front_at : (i : ℕ) → i < length before → IsDecidedAt d new far (boundary_at (bounds ++ tail) i)
    unfolding far
    front_at i inside =
        let here : get_or (take (length bounds - 1) bounds) i no_boundary ≡ boundary_at (bounds ++ tail) i =
        get_or-take (length bounds - 1) bounds i no_boundary (omega (arith, count)) ∙ sym (get_or_append_left bounds tail no_boundary i (omega (arith, count))) in
        subst (IsDecidedAt d new far) here
        (at_more d new (get_or (take (length bounds - 1) bounds) i no_boundary) (place + lookahead) far (omega (arith, enough.1, place_k, not_before o (omega (arith, o_behind)) o_within))
        (h.all i no_boundary (omega (arith, length-take-le (length bounds - 1) bounds (omega arith), count))))

    -- what the old run cut
    tail_at : (i : ℕ) → length before ≤ i → i < k → IsDecidedAt d new far (boundary_at (bounds ++ tail) i)
    unfolding far o
    tail_at i ge inside =
        let oi : ℕ = (j + i) - length before in
        let m = boundary_at olds oi in
        let past : ℕ = (boundary_at olds o).place + get_or numbers o 0 in
        let decided : IsDecidedAt d old past m = subst (IsDecidedAt d old past) (get_or-take o olds oi no_boundary (omega arith))
        (known.decided o o_within (omega (arith, enough.0, few)) oi no_boundary (omega (arith, length-take-le o olds (omega (arith, o_within))))) in
        let low = not_before oi (omega arith) (omega (arith, o_within)) in
        let high = not_before o (omega (arith, o_behind)) o_within in
        subst (IsDecidedAt d new far) (sym (old_at i ge (omega (arith, length-append bounds tail, lt))))
        (decided_moved d old new m ((m.place + place) - from) past far (moved_rest oi (omega arith) (omega (arith, o_within))) (omega (arith, enough.0, place_k, low, high)) decided)

    all_at : AreDecided d new (bounds ++ tail) k far
    all_at = All-from_get_or (IsDecidedAt d new far) (take k (bounds ++ tail)) no_boundary (λ i in_front.
        let inside : i < k = omega (arith, in_front, length-take-le k (bounds ++ tail) (omega (arith, lt))) in
        subst (IsDecidedAt d new far) (sym (get_or-take k (bounds ++ tail) i no_boundary inside)) (elim (cases_lt i (length before)) [
          | inl front ↦ front_at i front
          | inr rest ↦ tail_at i rest inside
        ]))

  pub looks_taken_over : LooksAhead d new (bounds ++ map (moved_boundary (boundary_at olds j).place place) (drop (j + 1) olds)) all
  unfolding tail from far
  looks_taken_over =
      let count_all = length-append bounds tail in
      let front : (i : ℕ) → i < length ahead → get_or all i 0 ≡ get_or ahead i 0 = λ i lt. sym (get_or-take (length ahead) all i 0 lt) ∙ ap (λ xs. get_or xs i 0) raised.kept in
      record {
        len = omega (arith, raised.len, h.looks.len, tail_len, count_all);
        first = front 0 (omega (arith, h.looks.len, count)) ∙ h.looks.first;
        decided = λ k lt few. elim (cases_lt k (length bounds)) [
          | inl old_k ↦
              let number = front k (omega (arith, h.looks.len)) in
              let place_is : (boundary_at (bounds ++ tail) k).place ≡ (boundary_at bounds k).place = ap (λ (m : Boundary). m.place) (get_or_append_left bounds tail no_boundary k old_k) in
              all_more d new (bounds ++ tail) k ((boundary_at bounds k).place + get_or ahead k 0) ((boundary_at (bounds ++ tail) k).place + get_or all k 0) (omega (arith, number, place_is))
              (all_longer d new bounds tail k ((boundary_at bounds k).place + get_or ahead k 0) (omega arith) (h.looks.decided k old_k (omega (arith, number, few))))
          | inr new_k ↦ all_at k new_k lt few
        ];
      }
