-- How many searches a run makes, to the last one.
use Rattle.std.proofs.Common.{◌≡◌, ℕ, zero, suc, ◌+◌, ◌-◌, ◌<◌, ◌≤◌, ◌⊎◌, List, [], ◌∷◌, ◌++◌, length, map, take, drop, Some, slice_get, slice_range, refl, sym, ap, ◌∙◌, subst, inl, inr, arith, append-nil, append_assoc, length-append, bytes_eq}
use Rattle.std.specs.List.{sum_by}
use Rattle.std.proofs.lemmas.Bool.{cases_lt, cases_eq, cond-true, cond-false, lt-ltb, le-ltb, cases_Bool, true≢false}
use Rattle.std.proofs.lemmas.List.{length-drop, take_at, take_all, map-append, drop-append-le}
use Rattle.std.proofs.lemmas.List.Sums.{sum_by-append, sum_by-cons}
use Rattle.std.proofs.lemmas.Option.{same_Some, none-some, slice_get-get_or}
use Rattle.std.proofs.lemmas.Slice.Eq.{bytes_eq-Decides}
use Rattle.lrlex_rules.specs.Definition.{Definition}
use Rattle.lrlex_rules.specs.Tiling.{Item, top}
use Rattle.lrlex_boundaries.specs.Entries.{plain}
use Rattle.lrlex_boundaries.specs.Boundaries.{Boundary, place_and_stack, no_boundary, boundary_at}
use Rattle.lrlex_boundaries.specs.Moves.{Meets}
use Rattle.lrlex.specs.Reach.{Reached}
use Rattle.lrlex_definition.specs.RuleTable.{untabled_count}
use Rattle.lrlex.specs.Searches.{asks_at, asks_by, IsLastSafe, IsFirstMeeting, WasRecut}
use Rattle.lrlex_definition.specs.declared.rule_table.RuleTable.{RuleTable}
use Rattle.lrlex.proofs.ReachLemmas.{length_now}
use Rattle.lrlex.proofs.MeetLemmas.{meets_front, front_at, last_at}

-- ---- the front of a list, from a place on

upto : {A : Type 0} (before rest : List A) (from n : ℕ) → from ≤ n → length before ≡ n → slice_range (before ++ rest) from n ≡ drop from before
upto before rest from n le len =
    let count : length (drop from before) ≡ n - from = omega (arith, length-drop from before) in
    ap (take (n - from)) (drop-append-le from before rest (omega arith)) ∙ take_at (drop from before) rest (n - from) count

pub to_the_end : {A : Type 0} (xs : List A) (from : ℕ) → slice_range xs from (length xs) ≡ drop from xs
to_the_end xs from = take_all (length xs - from) (drop from xs) (omega (arith, length-drop from xs))

-- ---- sums

module _ {S : Type 0} (def : RuleTable S) (text : List ℕ) where
  asks_append : (xs ys : List Boundary) → asks_by def text (xs ++ ys) ≡ asks_by def text xs + asks_by def text ys
  asks_append xs ys = ap (sum_by (asks_at def (length text))) (map-append place_and_stack xs ys) ∙ sum_by-append (asks_at def (length text)) (map place_and_stack xs) (map place_and_stack ys)

  asks_one : (m : Boundary) → m.place < length text → asks_by def text (m ∷ []) ≡ untabled_count def (top (plain m.entries))
  asks_one m lt =
      let at : asks_at def (length text) (place_and_stack m) ≡ untabled_count def (top (plain m.entries)) = cond-true _ (untabled_count def (top (plain m.entries))) 0 (lt-ltb m.place (length text) lt) in
      omega (arith, sum_by-cons (asks_at def (length text)) (place_and_stack m) [], at)

  asks_last : (m : Boundary) → length text ≤ m.place → asks_by def text (m ∷ []) ≡ 0
  asks_last m le =
      let at : asks_at def (length text) (place_and_stack m) ≡ 0 = cond-false _ (untabled_count def (top (plain m.entries))) 0 (le-ltb m.place (length text) le) in
      omega (arith, sum_by-cons (asks_at def (length text)) (place_and_stack m) [], at)

  pub asks_nowhere : (xs : List Boundary) (from n : ℕ) → n ≤ from → asks_by def text (slice_range xs from n) ≡ 0
  asks_nowhere xs from n le = let none : n - from ≡ 0 = omega arith in ap (λ k. asks_by def text (take k (drop from xs))) none

  -- ---- as a run goes on

  module _ (d : Definition) (place : ℕ) (stack : List (ℕ × ℕ)) (found : List Item) (bounds : List Boundary) (asked : ℕ) (r : Reached d text place stack found bounds asked)
      (from : ℕ) (le : from < length bounds) (count : asked ≡ asks_by def text (slice_range bounds from (length bounds - 1))) where
    abbrev here : Boundary
    here = record { place = place; entries = stack }

    before_here : (tail all : List Boundary) → all ≡ bounds ++ tail → slice_range all from (length bounds - 1) ≡ drop from r.before
    before_here tail all e =
        let n = length_now d text place stack found bounds asked r in
        ap (λ ms. slice_range ms from (length bounds - 1)) (e ∙ ap (λ ms. ms ++ tail) r.kept ∙ append_assoc r.before (here ∷ []) tail)
        ∙ upto r.before (here ∷ tail) from (length bounds - 1) (omega arith) (omega arith)

    total : asks_by def text (drop from bounds) ≡ asked + asks_by def text (here ∷ [])
    total =
        let n = length_now d text place stack found bounds asked r in
        let split : drop from bounds ≡ drop from r.before ++ here ∷ [] = ap (drop from) r.kept ∙ drop-append-le from r.before (here ∷ []) (omega arith) in
        let front = ap (asks_by def text) (before_here [] bounds (sym (append-nil bounds))) in
        omega (arith, ap (asks_by def text) split, asks_append (drop from r.before) (here ∷ []), front, count)

    -- by one more tile, or a try at one
    pub more_asked : (now : ℕ) → place < length text → now ≡ asked + untabled_count def (top (plain stack)) → now ≡ asks_by def text (drop from bounds)
    more_asked now lt is = omega (arith, total, asks_one here lt, is)

    -- at the text's end nothing is asked
    pub all_asked : length text ≤ place → asked ≡ asks_by def text (drop from bounds)
    all_asked end = omega (arith, total, asks_last here end)

    pub next_asked : (now : ℕ) (m : Boundary) (after : List Boundary) → place < length text → now ≡ asked + untabled_count def (top (plain stack)) → after ≡ bounds ++ m ∷ [] →
        now ≡ asks_by def text (slice_range after from (length after - 1))
    next_asked now m after lt is e =
        let len = length-append bounds (m ∷ []) in
        more_asked now lt is
        ∙ ap (asks_by def text) (sym (ap (λ ms. slice_range ms from (length after - 1)) e ∙ upto bounds (m ∷ []) from (length after - 1) (omega (arith, ap length e, len)) (omega (arith, ap length e, len))))

-- ---- whether a boundary meets the old run

pub record IsThere (olds : List Boundary) (off at : ℕ) (stack : List ℕ) : Type 0 where
  pub j : ℕ
  pub m : Boundary
  pub there : slice_get olds j ≡ Some m
  pub back : m.place + off ≡ at
  pub same : plain m.entries ≡ stack

same_or_not : (xs ys : List ℕ) → (xs ≡ ys) ⊎ (xs ≡ ys → ⊥)
same_or_not xs ys = elim (cases_Bool (bytes_eq xs ys)) [
  | inl alike ↦ inl ((bytes_eq-Decides xs ys).0 alike)
  | inr apart ↦ inr (λ e. true≢false (sym ((bytes_eq-Decides xs ys).1 e) ∙ apart))
]

nowhere : (olds : List Boundary) (n : Boundary) (off at : ℕ) (stack : List ℕ) → (IsThere olds off at stack → ⊥) → (n.place + off ≡ at → plain n.entries ≡ stack → ⊥) →
    (j : ℕ) (m : Boundary) → slice_get (n ∷ olds) j ≡ Some m → m.place + off ≡ at → plain m.entries ≡ stack → ⊥
nowhere olds n off at stack none other zero m is back same =
    let e = same_Some _ _ is in
    other (ap (λ (x : Boundary). x.place + off) e ∙ back) (ap (λ (x : Boundary). plain x.entries) e ∙ same)
nowhere olds n off at stack none other (suc j) m is back same = none (record { j = j; m = m; there = is; back = back; same = same })

is_there : (olds : List Boundary) (off at : ℕ) (stack : List ℕ) → IsThere olds off at stack ⊎ (IsThere olds off at stack → ⊥)
is_there [] off at stack = inr (λ t. none-some _ t.there)
is_there (n ∷ olds) off at stack = elim (is_there olds off at stack) [
  | inl t ↦ inl (record { j = suc t.j; m = t.m; there = t.there; back = t.back; same = t.same })
  | inr none ↦ elim (cases_eq (n.place + off) at) [
    | inl back ↦ elim (same_or_not (plain n.entries) stack) [
      | inl same ↦ inl (record { j = 0; m = n; there = refl; back = back; same = same })
      | inr other ↦ inr (λ t. nowhere olds n off at stack none (λ b s. other s) t.j t.m t.there t.back t.same)
    ]
    | inr away ↦ inr (λ t. nowhere olds n off at stack none (λ b s. away b) t.j t.m t.there t.back t.same)
  ]
]

module _ (d : Definition) (text : List ℕ) (olds bounds tail all : List Boundary) (numbers : List ℕ) (low high len : ℕ) (place : ℕ) (stack : List (ℕ × ℕ)) (found : List Item) (asked : ℕ)
    (r : Reached d text place stack found bounds asked) (e : all ≡ bounds ++ tail) (unmet : (k : ℕ) → k + 1 < length bounds → Meets olds bounds low high len k → ⊥) where
  -- the last boundary so far
  at_last : slice_get all (length bounds - 1) ≡ Some (record { place = place; entries = stack })
  at_last =
      let n = length_now d text place stack found bounds asked r in
      let l : Boundary = record { place = place; entries = stack } in
      let at : length r.before ≡ length bounds - 1 = omega arith in
      ap (λ ms. slice_get ms (length bounds - 1)) e ∙ front_at bounds tail (length bounds - 1) (omega arith)
      ∙ ap (λ ms. slice_get ms (length bounds - 1)) r.kept ∙ last_at r.before l (length bounds - 1) at

  pub meets_here : low + len ≤ place → IsThere olds (low + len) (place + high) (plain stack) → Meets olds all low high len (length bounds - 1)
  meets_here past t = record { q = place; entries = stack; at = at_last; past = past; j = t.j; m = t.m; there = t.there; back = t.back; stack = t.same }

  there_by : Meets olds all low high len (length bounds - 1) → IsThere olds (low + len) (place + high) (plain stack) × (low + len ≤ place)
  there_by m =
      let same = same_Some _ _ (sym m.at ∙ at_last) in
      let q = ap (λ (x : Boundary). x.place) same in
      (record { j = m.j; m = m.m; there = m.there; back = m.back ∙ ap (λ n. n + high) q; same = m.stack ∙ ap (λ (x : Boundary). plain x.entries) same }, omega (arith, m.past, q))

  -- whether it meets the old run
  pub meets_or_not : Meets olds all low high len (length bounds - 1) ⊎ (Meets olds all low high len (length bounds - 1) → ⊥)
  meets_or_not = elim (cases_lt place (low + len)) [
    | inl before ↦ inr (λ m. absurd (omega (arith, (there_by m).1)))
    | inr past ↦ elim (is_there olds (low + len) (place + high) (plain stack)) [
      | inl t ↦ inl (meets_here past t)
      | inr none ↦ inr (λ m. none (there_by m).0)
    ]
  ]

  -- none meets it before that
  pub none_before : (j : ℕ) → j < length bounds - 1 → Meets olds all low high len j → ⊥
  none_before j lt m = unmet j (omega arith) (meets_front olds bounds tail all low high len j e (omega arith) m)

  pub first_here : Meets olds all low high len (length bounds - 1) → IsFirstMeeting olds all low high len (length bounds - 1)
  first_here m = record { meets = inl m; first = none_before }

-- where none meets it, all boundaries stand before a meeting
pub none_first : (olds all : List Boundary) (low high len : ℕ) → ((k : ℕ) → Meets olds all low high len k → ⊥) → IsFirstMeeting olds all low high len (length all)
none_first olds all low high len none = record { meets = inr refl; first = λ j lt m. none j m }

-- ---- what was cut anew

module _ {S : Type 0} (def : RuleTable S) (d : Definition) (text : List ℕ) (olds : List Boundary) (numbers : List ℕ) (low high len : ℕ)
    (place : ℕ) (stack : List (ℕ × ℕ)) (found : List Item) (bounds : List Boundary) (asked : ℕ) (r : Reached d text place stack found bounds asked)
    (from : ℕ) (resumed : IsLastSafe olds numbers low from) (le : from < length bounds) (count : asked ≡ asks_by def text (slice_range bounds from (length bounds - 1)))
    (unmet : (k : ℕ) → k + 1 < length bounds → Meets olds bounds low high len k → ⊥) (all : List Boundary) (now recut : ℕ) (tiles : from + recut ≡ length bounds - 1) where
  -- where the tail was taken over
  pub cut_to_meeting : (tail : List Boundary) → all ≡ bounds ++ tail → now ≡ asked → low + len ≤ place → (j : ℕ) → j < length olds → (boundary_at olds j).place + (low + len) ≡ place + high →
      (boundary_at olds j).entries ≡ stack → WasRecut (asks_by def text) olds all numbers low high len now recut
  cut_to_meeting tail e is past j within back same =
      let n = length_now d text place stack found bounds asked r in
      let t : IsThere olds (low + len) (place + high) (plain stack) = record { j = j; m = boundary_at olds j; there = slice_get-get_or olds j no_boundary within; back = back; same = ap (λ xs. plain xs) same } in
      record {
        from = from;
        to = length bounds - 1;
        resumed = resumed;
        met = first_here d text olds bounds tail all numbers low high len place stack found asked r e unmet (meets_here d text olds bounds tail all numbers low high len place stack found asked r e unmet past t);
        searches = is ∙ count
            ∙ ap (asks_by def text) (before_here def text d place stack found bounds asked r from le count [] bounds (sym (append-nil bounds)) ∙ sym (before_here def text d place stack found bounds asked r from le count tail all e));
        tiles = omega (arith, tiles, n, ap length e, length-append bounds tail);
      }

  -- where lexing stopped before the text's end
  pub cut_to_stop : all ≡ bounds → ((k : ℕ) → Meets olds bounds low high len k → ⊥) → place < length text → now ≡ asked + untabled_count def (top (plain stack)) →
      WasRecut (asks_by def text) olds all numbers low high len now recut
  cut_to_stop e none lt is = record {
    from = from;
    to = length all;
    resumed = resumed;
    met = none_first olds all low high len (λ k m. none k (subst (λ ms. Meets olds ms low high len k) e m));
    searches = more_asked def text d place stack found bounds asked r from le count now lt is ∙ ap (asks_by def text) (ap (drop from) (sym e) ∙ sym (to_the_end all from));
    tiles = omega (arith, tiles, ap length e);
  }

  -- where it came to the text's end
  pub cut_to_end : all ≡ bounds → length text ≤ place → now ≡ asked → WasRecut (asks_by def text) olds all numbers low high len now recut
  cut_to_end e end is =
      let n = length_now d text place stack found bounds asked r in
      let whole : all ≡ bounds ++ [] = e ∙ sym (append-nil bounds) in
      elim (meets_or_not d text olds bounds [] all numbers low high len place stack found asked r whole unmet) [
        | inl m ↦ record {
          from = from;
          to = length bounds - 1;
          resumed = resumed;
          met = first_here d text olds bounds [] all numbers low high len place stack found asked r whole unmet m;
          searches = is ∙ count ∙ ap (λ ms. asks_by def text (slice_range ms from (length bounds - 1))) (sym e);
          tiles = omega (arith, tiles, n, ap length e);
        }
        | inr never ↦ record {
          from = from;
          to = length all;
          resumed = resumed;
          met = record {
            meets = inr refl;
            first = λ j lt m. elim (cases_lt (j + 1) (length bounds)) [
              | inl early ↦ none_before d text olds bounds [] all numbers low high len place stack found asked r whole unmet j (omega arith) m
              | inr late ↦
                  let at : j ≡ length bounds - 1 = omega (arith, ap length e) in
                  never (subst (Meets olds all low high len) at m)
            ];
          };
          searches = is ∙ all_asked def text d place stack found bounds asked r from le count end ∙ ap (asks_by def text) (ap (drop from) (sym e) ∙ sym (to_the_end all from));
          tiles = omega (arith, tiles, ap length e);
        }
      ]
