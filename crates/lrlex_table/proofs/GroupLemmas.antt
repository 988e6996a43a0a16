-- What a group builder makes of the tables of patterns is the table of all of them.
use Rattle.std.proofs.Common.{◌≡◌, ◌≢◌, ◌⊎◌, ℕ, zero, suc, ◌+◌, ◌*◌, ◌<◌, ◌≤◌, ◌==◌, Bool, true, false, is_some, List, All, [], ◌∷◌, ◌++◌, length, Option, Some, None, IsSome, IfSome, slice_get, slice_index_or, append_assoc, append-nil, take, drop, add-one, refl, sym, ap, ◌∙◌, subst, inl, inr, arith, ne_eqb}
use Rattle.std.proofs.lemmas.Bool.{cond-true, cond-false, cases_lt, cases_eq, eq-eqb}
use Rattle.std.proofs.lemmas.List.{get_or_past, take_more, take-append-drop}
use Rattle.std.proofs.lemmas.Option.{none-some, slice_get-get_or}
use Rattle.std.proofs.lemmas.List.Elements.{All-head, All-tail}
use Rattle.regex_hir.specs.Looks.{holds}
use Rattle.regex_nfa.specs.declared.nfa.Nfa.{Nfa}
use Rattle.regex_dfa.specs.Moves.{MovesForward}
use Rattle.regex.specs.Patterns.{Re}
use Rattle.lrlex_table.specs.Table.{next_of, IsFirstMatch, IsAt, IsTableOn, Measures, pattern_at, Serves, IsTableOf}
use Rattle.lrlex_table.specs.Tables.{AreRising, AreCached}
use Rattle.lrlex_table.specs.Group.{row_among, step_row, live_before, step_all, first_among, all_starts, ArePastStart, patterns_of, live_rows_at, IsPartialGroup, cached_table, cached_at, nexts_of, wins_of, start_of, nexts_in, wins_in, start_in, AreTabled}
use Rattle.lrlex_table.specs.declared.cached_table.CachedTable.{CachedTable}
use Rattle.lrlex_table.specs.declared.table.Table.{Table}
use Rattle.lrlex_table.proofs.MovesLemmas.{moves_none}
use Rattle.lrlex_table.proofs.PartLemmas.{rising_bounds}
use Rattle.lrlex_table.proofs.ByteLemmas.{IsByte, byte_at, next_past}

-- ---- the row of a pattern among others

among_here : (l : ℕ × ℕ) (ls : List (ℕ × ℕ)) (k : ℕ) → l.0 ≡ k → row_among (l ∷ ls) k ≡ l.1
among_here l ls k e = cond-true (l.0 == k) l.1 (row_among ls k) (eq-eqb l.0 k e)

among_there : (l : ℕ × ℕ) (ls : List (ℕ × ℕ)) (k : ℕ) → l.0 ≢ k → row_among (l ∷ ls) k ≡ row_among ls k
among_there l ls k other = cond-false (l.0 == k) l.1 (row_among ls k) (ne_eqb l.0 k other)

among_below : (lo n : ℕ) (ls : List (ℕ × ℕ)) (k : ℕ) → AreRising lo n (patterns_of ls) → k < lo → row_among ls k ≡ 0
among_below lo n [] k r lt = refl
among_below lo n (l ∷ ls) k r lt =
    among_there l ls k (λ e. omega (arith, r.0)) ∙ among_below (l.0 + 1) n ls k r.1 (omega (arith, r.0))

-- a row in front of others, which is dropped if it is row 0
before_here : (k to : ℕ) (ls : List (ℕ × ℕ)) → row_among ls k ≡ 0 → row_among (live_before k to ls) k ≡ to
before_here k to ls none = elim (cases_eq to 0) [
  | inl dead ↦ ap (λ xs. row_among xs k) (cond-true (to == 0) ls ((k, to) ∷ ls) (eq-eqb to 0 dead)) ∙ none ∙ sym dead
  | inr live ↦ ap (λ xs. row_among xs k) (cond-false (to == 0) ls ((k, to) ∷ ls) (ne_eqb to 0 live)) ∙ among_here (k, to) ls k refl
]

before_there : (j to : ℕ) (ls : List (ℕ × ℕ)) (k : ℕ) → j ≢ k → row_among (live_before j to ls) k ≡ row_among ls k
before_there j to ls k other = elim (cases_eq to 0) [
  | inl dead ↦ ap (λ xs. row_among xs k) (cond-true (to == 0) ls ((j, to) ∷ ls) (eq-eqb to 0 dead))
  | inr live ↦ ap (λ xs. row_among xs k) (cond-false (to == 0) ls ((j, to) ∷ ls) (ne_eqb to 0 live)) ∙ among_there (j, to) ls k other
]

-- patterns below the first of these have row 0 after a step too
step_below : (na : ℕ → List ℕ) (lo n : ℕ) (ls : List (ℕ × ℕ)) (b k : ℕ) → AreRising lo n (patterns_of ls) → k < lo → row_among (step_all na ls b) k ≡ 0
step_below na lo n [] b k r lt = refl
step_below na lo n (l ∷ ls) b k r lt =
    before_there l.0 (step_row (na l.0) l.1 (Some b)) (step_all na ls b) k (λ e. omega (arith, r.0))
    ∙ step_below na (l.0 + 1) n ls b k r.1 (omega (arith, r.0))

-- the row of each pattern goes where its table says
among_step : (na : ℕ → List ℕ) (lo n : ℕ) (ls : List (ℕ × ℕ)) (b k : ℕ) → AreRising lo n (patterns_of ls) →
    row_among (step_all na ls b) k ≡ step_row (na k) (row_among ls k) (Some b)
among_step na lo n [] b k r = refl
among_step na lo n (l ∷ ls) b k r = elim (cases_eq l.0 k) [
  | inl here ↦
      let to = step_row (na l.0) l.1 (Some b) in
      let rest = step_all na ls b in
      subst (λ i. row_among (live_before l.0 to rest) i ≡ step_row (na i) (row_among (l ∷ ls) i) (Some b)) here
      (before_here l.0 to rest (step_below na (l.0 + 1) n ls b l.0 r.1 (omega arith))
      ∙ sym (ap (λ x. step_row (na l.0) x (Some b)) (among_here l ls l.0 refl)))
  | inr other ↦
      before_there l.0 (step_row (na l.0) l.1 (Some b)) (step_all na ls b) k other
      ∙ among_step na (l.0 + 1) n ls b k r.1
      ∙ sym (ap (λ x. step_row (na k) x (Some b)) (among_there l ls k other))
]

step_none : (next : List ℕ) (r : ℕ) → step_row next r None ≡ 0
step_none next zero = refl
step_none next (suc r) = refl

-- where all begin, each pattern has its first row
starts_past : (sa : ℕ → ℕ) (m k : ℕ) (ls : List (ℕ × ℕ)) → m ≤ k → row_among (all_starts sa m ++ ls) k ≡ row_among ls k
starts_past sa zero k ls le = refl
starts_past sa (suc m) k ls le =
    ap (λ xs. row_among xs k) (append_assoc (all_starts sa m) ((m, sa m) ∷ []) ls)
    ∙ starts_past sa m k ((m, sa m) ∷ ls) (omega arith)
    ∙ among_there (m, sa m) ls k (λ e. omega arith)

starts_among : (sa : ℕ → ℕ) (n k : ℕ) (ls : List (ℕ × ℕ)) → k < n → row_among (all_starts sa n ++ ls) k ≡ sa k
starts_among sa zero k ls lt = absurd (omega arith)
starts_among sa (suc n) k ls lt =
    ap (λ xs. row_among xs k) (append_assoc (all_starts sa n) ((n, sa n) ∷ []) ls)
    ∙ elim (cases_lt k n) as (λ _. row_among (all_starts sa n ++ (n, sa n) ∷ ls) k ≡ sa k) [
      | inl low ↦ starts_among sa n k ((n, sa n) ∷ ls) low
      | inr high ↦
          let e : n ≡ k = omega arith in
          starts_past sa n k ((n, sa n) ∷ ls) high ∙ among_here (n, sa n) ls k e ∙ ap sa e
    ]

-- a row past the start isn't a first row
past_start : (sa : ℕ → ℕ) (ls : List (ℕ × ℕ)) (k : ℕ) → sa k ≢ 0 → ArePastStart sa ls → row_among ls k ≢ sa k
past_start sa [] k some past e = some (sym e)
past_start sa (l ∷ ls) k some past e = elim (cases_eq l.0 k) [
  | inl here ↦ All-head (λ (x : ℕ × ℕ). x.1 ≢ sa x.0) l ls past (sym (among_here l ls k here) ∙ e ∙ ap sa (sym here))
  | inr other ↦ past_start sa ls k some (All-tail (λ (x : ℕ × ℕ). x.1 ≢ sa x.0) l ls past) (sym (among_there l ls k other) ∙ e)
]

-- ---- the first of the patterns that match

bool_cases : (b : Bool) → (b ≡ true) ⊎ (b ≡ false)
bool_cases true = inl refl
bool_cases false = inr refl

first_as : (n : ℕ) (f g : ℕ → Bool) (o : Option ℕ) → ((k : ℕ) → k < n → f k ≡ g k) → IsFirstMatch n f o → IsFirstMatch n g o
first_as n f g None same h = λ k lt. sym (same k lt) ∙ h k lt
first_as n f g (Some w) same h = (h.0, sym (same w h.0) ∙ h.1, λ k lt. sym (same k (omega (arith, h.0))) ∙ h.2 k lt)

one_match : (m : ℕ → Bool) (o : Option ℕ) → IsFirstMatch 1 m o → m 0 ≡ is_some o
one_match m None h = h 0 (omega arith)
one_match m (Some w) h = let zero_is : w ≡ 0 = omega (arith, h.0) in subst (λ i. m i ≡ true) zero_is h.1

-- whether pattern k matches at this row of its table
abbrev won : (ℕ → List (Option ℕ)) → ℕ → ℕ → Bool
won wa k r = is_some (slice_index_or (wa k) r None)

first_is : (wa : ℕ → List (Option ℕ)) (lo n : ℕ) (ls : List (ℕ × ℕ)) → AreRising lo n (patterns_of ls) → ((k : ℕ) → k < n → won wa k 0 ≡ false) →
    IsFirstMatch n (λ k. won wa k (row_among ls k)) (first_among wa ls)
first_is wa lo n [] r quiet = quiet
first_is wa lo n (l ∷ ls) r quiet = elim (bool_cases (won wa l.0 l.1)) [
  | inl wins ↦
      subst (IsFirstMatch n (λ k. won wa k (row_among (l ∷ ls) k))) (sym (cond-true (won wa l.0 l.1) (Some l.0) (first_among wa ls) wins)) (
        omega (arith, rising_bounds (l.0 + 1) n (patterns_of ls) r.1),
        ap (won wa l.0) (among_here l ls l.0 refl) ∙ wins,
        λ k lt.
            ap (won wa k) (among_there l ls k (λ e. omega arith) ∙ among_below (l.0 + 1) n ls k r.1 (omega arith))
            ∙ quiet k (omega (arith, rising_bounds (l.0 + 1) n (patterns_of ls) r.1)),
      )
  | inr loses ↦
      subst (IsFirstMatch n (λ k. won wa k (row_among (l ∷ ls) k))) (sym (cond-false (won wa l.0 l.1) (Some l.0) (first_among wa ls) loses))
      (first_as n (λ k. won wa k (row_among ls k)) (λ k. won wa k (row_among (l ∷ ls) k)) (first_among wa ls)
      (λ k lt. elim (cases_eq l.0 k) [
        | inl here ↦
            ap (won wa k) (among_below (l.0 + 1) n ls k r.1 (omega arith)) ∙ quiet k lt
            ∙ sym (ap (won wa k) (among_here l ls k here) ∙ ap (λ i. won wa i l.1) (sym here) ∙ loses)
        | inr other ↦ ap (won wa k) (sym (among_there l ls k other))
      ])
      (first_is wa (l.0 + 1) n ls r.1 quiet))
]

-- ---- lists of rows while they are gone through

before_append : (k to : ℕ) (xs ys : List (ℕ × ℕ)) → live_before k to (xs ++ ys) ≡ live_before k to xs ++ ys
before_append k to xs ys = elim (cases_eq to 0) [
  | inl dead ↦
      cond-true (to == 0) (xs ++ ys) ((k, to) ∷ xs ++ ys) (eq-eqb to 0 dead)
      ∙ sym (ap (λ zs. zs ++ ys) (cond-true (to == 0) xs ((k, to) ∷ xs) (eq-eqb to 0 dead)))
  | inr live ↦
      cond-false (to == 0) (xs ++ ys) ((k, to) ∷ xs ++ ys) (ne_eqb to 0 live)
      ∙ sym (ap (λ zs. zs ++ ys) (cond-false (to == 0) xs ((k, to) ∷ xs) (ne_eqb to 0 live)))
]

step_append : (na : ℕ → List ℕ) (xs ys : List (ℕ × ℕ)) (b : ℕ) → step_all na (xs ++ ys) b ≡ step_all na xs b ++ step_all na ys b
step_append na [] ys b = refl
step_append na (x ∷ xs) ys b =
    ap (live_before x.0 (step_row (na x.0) x.1 (Some b))) (step_append na xs ys b)
    ∙ before_append x.0 (step_row (na x.0) x.1 (Some b)) (step_all na xs b) (step_all na ys b)

-- one more row, which goes to row 0
pub step_more_dead : (na : ℕ → List ℕ) (ls : List (ℕ × ℕ)) (i b : ℕ) (d : ℕ × ℕ) → i < length ls →
    step_row (na (slice_index_or ls i d).0) (slice_index_or ls i d).1 (Some b) ≡ 0 → step_all na (take (i + 1) ls) b ≡ step_all na (take i ls) b
step_more_dead na ls i b d lt dead =
    let l = slice_index_or ls i d in
    let to = step_row (na l.0) l.1 (Some b) in
    ap (λ xs. step_all na xs b) (take_more ls i d lt) ∙ step_append na (take i ls) (l ∷ []) b
    ∙ ap (λ ys. step_all na (take i ls) b ++ ys) (cond-true (to == 0) [] ((l.0, to) ∷ []) (eq-eqb to 0 dead))
    ∙ append-nil (step_all na (take i ls) b)

-- one more row, which goes to another
pub step_more_live : (na : ℕ → List ℕ) (ls : List (ℕ × ℕ)) (i b to : ℕ) (d : ℕ × ℕ) → i < length ls →
    step_row (na (slice_index_or ls i d).0) (slice_index_or ls i d).1 (Some b) ≡ to → to ≢ 0 →
    step_all na (take (i + 1) ls) b ≡ step_all na (take i ls) b ++ ((slice_index_or ls i d).0, to) ∷ []
step_more_live na ls i b to d lt is live =
    let l = slice_index_or ls i d in
    ap (λ xs. step_all na xs b) (take_more ls i d lt) ∙ step_append na (take i ls) (l ∷ []) b
    ∙ ap (λ t. step_all na (take i ls) b ++ live_before l.0 t []) is
    ∙ ap (λ ys. step_all na (take i ls) b ++ ys) (cond-false (to == 0) [] ((l.0, to) ∷ []) (ne_eqb to 0 live))

pub step_dead : (next : List ℕ) (row : ℕ) (o : Option ℕ) → row ≡ 0 → step_row next row o ≡ 0
step_dead next row o dead = ap (λ r. step_row next r o) dead

pub step_live : (next : List ℕ) (row to : ℕ) (o : Option ℕ) → row ≢ 0 → to ≡ next_of next row o → step_row next row o ≡ to
step_live next zero to o live is = absurd (live refl)
step_live next (suc row) to o live is = sym is

-- a row that goes to equal rows on two bytes
pub step_same : (next : List ℕ) (row b c : ℕ) → next_of next row (Some c) ≡ next_of next row (Some b) → step_row next row (Some c) ≡ step_row next row (Some b)
step_same next zero b c same = refl
step_same next (suc row) b c same = same

-- all rows go to equal rows on two bytes
pub step_all_more : (na : ℕ → List ℕ) (ls : List (ℕ × ℕ)) (i b c : ℕ) (d : ℕ × ℕ) → i < length ls → step_all na (take i ls) c ≡ step_all na (take i ls) b →
    step_row (na (slice_index_or ls i d).0) (slice_index_or ls i d).1 (Some c) ≡ step_row (na (slice_index_or ls i d).0) (slice_index_or ls i d).1 (Some b) →
    step_all na (take (i + 1) ls) c ≡ step_all na (take (i + 1) ls) b
step_all_more na ls i b c d lt before same =
    let l = slice_index_or ls i d in
    ap (λ xs. step_all na xs c) (take_more ls i d lt) ∙ step_append na (take i ls) (l ∷ []) c
    ∙ ap (λ xs. xs ++ step_all na (l ∷ []) c) before
    ∙ ap (λ t. step_all na (take i ls) b ++ live_before l.0 t []) same
    ∙ sym (ap (λ xs. step_all na xs b) (take_more ls i d lt) ∙ step_append na (take i ls) (l ∷ []) b)

first_none : (wa : ℕ → List (Option ℕ)) (xs ys : List (ℕ × ℕ)) → first_among wa xs ≡ None → first_among wa (xs ++ ys) ≡ first_among wa ys
first_none wa [] ys none = refl
first_none wa (x ∷ xs) ys none = elim (bool_cases (won wa x.0 x.1)) [
  | inl wins ↦ absurd (none-some x.0 (sym none ∙ cond-true (won wa x.0 x.1) (Some x.0) (first_among wa xs) wins))
  | inr loses ↦
      cond-false (won wa x.0 x.1) (Some x.0) (first_among wa (xs ++ ys)) loses
      ∙ first_none wa xs ys (sym (cond-false (won wa x.0 x.1) (Some x.0) (first_among wa xs) loses) ∙ none)
]

first_some : (wa : ℕ → List (Option ℕ)) (xs ys : List (ℕ × ℕ)) (k : ℕ) → first_among wa xs ≡ Some k → first_among wa (xs ++ ys) ≡ Some k
first_some wa [] ys k some = absurd (none-some k some)
first_some wa (x ∷ xs) ys k some = elim (bool_cases (won wa x.0 x.1)) [
  | inl wins ↦
      cond-true (won wa x.0 x.1) (Some x.0) (first_among wa (xs ++ ys)) wins
      ∙ sym (cond-true (won wa x.0 x.1) (Some x.0) (first_among wa xs) wins) ∙ some
  | inr loses ↦
      cond-false (won wa x.0 x.1) (Some x.0) (first_among wa (xs ++ ys)) loses
      ∙ first_some wa xs ys k (sym (cond-false (won wa x.0 x.1) (Some x.0) (first_among wa xs) loses) ∙ some)
]

-- none of the rows so far wins, and the next one doesn't
pub first_more : (wa : ℕ → List (Option ℕ)) (ls : List (ℕ × ℕ)) (i : ℕ) (d : ℕ × ℕ) → i < length ls → first_among wa (take i ls) ≡ None →
    is_some (slice_index_or (wa (slice_index_or ls i d).0) (slice_index_or ls i d).1 None) ≡ false → first_among wa (take (i + 1) ls) ≡ None
first_more wa ls i d lt none loses =
    let l = slice_index_or ls i d in
    ap (first_among wa) (take_more ls i d lt) ∙ first_none wa (take i ls) (l ∷ []) none ∙ cond-false (won wa l.0 l.1) (Some l.0) None loses

-- none of the rows so far wins, and the next one does
pub first_found : (wa : ℕ → List (Option ℕ)) (ls : List (ℕ × ℕ)) (i : ℕ) (d : ℕ × ℕ) → i < length ls → first_among wa (take i ls) ≡ None →
    is_some (slice_index_or (wa (slice_index_or ls i d).0) (slice_index_or ls i d).1 None) ≡ true → first_among wa ls ≡ Some (slice_index_or ls i d).0
first_found wa ls i d lt none wins =
    let l = slice_index_or ls i d in
    let here : first_among wa (take (i + 1) ls) ≡ Some l.0 =
    ap (first_among wa) (take_more ls i d lt) ∙ first_none wa (take i ls) (l ∷ []) none ∙ cond-true (won wa l.0 l.1) (Some l.0) None wins in
    sym (ap (first_among wa) (take-append-drop (i + 1) ls)) ∙ first_some wa (take (i + 1) ls) (drop (i + 1) ls) l.0 here

pub starts_more : (sa : ℕ → ℕ) (n : ℕ) → all_starts sa (n + 1) ≡ all_starts sa n ++ (n, sa n) ∷ []
starts_more sa n = ap (all_starts sa) (add-one n)

-- ---- the table of all

module _ (n : ℕ) (na : ℕ → List ℕ) (wa : ℕ → List (Option ℕ)) (sa : ℕ → ℕ) (rows : List (List (ℕ × ℕ))) (next : List ℕ) (wins : List (Option ℕ))
    (built : IsPartialGroup n na wa sa rows next wins) (full : length wins ≡ length rows) (filled : length next ≡ length rows * 256)
    (begun : (k : ℕ) → k < n → sa k ≢ 0) (quiet : (k : ℕ) → k < n → slice_index_or (wa k) 0 None ≡ None) where
  -- the row of pattern k at row r
  abbrev row_of : ℕ → ℕ → ℕ
  row_of k r = row_among (live_rows_at rows r) k

  row_dead : (k : ℕ) → row_of k 0 ≡ 0
  row_dead k = ap (λ ls. row_among ls k) built.nothing

  row_past : (k r : ℕ) → length rows ≤ r → row_of k r ≡ 0
  row_past k r past = ap (λ ls. row_among ls k) (get_or_past rows r [] past)

  row_first : (k : ℕ) → k < n → row_of k 1 ≡ sa k
  row_first k lt = ap (λ ls. row_among ls k) (built.first ∙ sym (append-nil (all_starts sa n))) ∙ starts_among sa n k [] lt

  -- where a row goes, the row of each pattern goes
  row_after : (k r : ℕ) (o : Option ℕ) → IsByte o → row_of k (next_of next r o) ≡ step_row (na k) (row_of k r) o
  row_after k r None byte = row_dead k ∙ sym (step_none (na k) (row_of k r))
  row_after k r (Some b) byte = elim (cases_lt r (length rows)) [
    | inl lt ↦
        let small = byte b refl in
        ap (λ ls. row_among ls k) (built.cells r b small (omega arith)).1 ∙ among_step na 0 n (live_rows_at rows r) b k (built.rising r)
    | inr past ↦
        ap (row_of k) (next_past next (length rows) r (Some b) (omega arith) past) ∙ row_dead k
        ∙ sym (ap (λ x. step_row (na k) x (Some b)) (row_past k r past))
  ]

  row_is_at : (k r j : ℕ) → k < n → IsAt 1 r j → IsAt (sa k) (row_of k r) j
  row_is_at k r j lt at = elim (cases_eq r 1) [
    | inl one ↦ (λ e. at.0 one, λ e. ap (row_of k) one ∙ row_first k lt)
    | inr other ↦ (
      λ e. absurd (past_start sa (live_rows_at rows r) k (begun k lt) (built.apart r other) e),
      λ e. absurd (other (at.1 e)),
    )
  ]

  module _ (p : ℕ → Re) (ps : List Re) (S : (k : ℕ) → k < n → Serves (na k) (wa k) (sa k) (p k ∷ [])) (some : 0 < n) (count : length ps ≡ n)
      (are : (k : ℕ) → k < n → pattern_at ps k ≡ p k) where
    abbrev nfa_by : (k : ℕ) → (k < n) ⊎ (n ≤ k) → Nfa
    nfa_by k (inl lt) = (S k lt).nfa 0
    nfa_by k (inr ge) = (S 0 some).nfa 0

    abbrev threads_by : (k : ℕ) → (k < n) ⊎ (n ≤ k) → ℕ → List ℕ
    threads_by k (inl lt) zero = []
    threads_by k (inl lt) (suc r) = (S k lt).threads (suc r) 0
    threads_by k (inr ge) r = []

    abbrev matched_by : (k : ℕ) → (k < n) ⊎ (n ≤ k) → ℕ → Bool
    matched_by k c zero = false
    matched_by k (inl lt) (suc r) = (S k lt).matched (suc r) 0
    matched_by k (inr ge) (suc r) = false

    threads_dead : (k : ℕ) (c : (k < n) ⊎ (n ≤ k)) → threads_by k c 0 ≡ []
    threads_dead k (inl lt) = refl
    threads_dead k (inr ge) = refl

    matched_dead : (k : ℕ) (c : (k < n) ⊎ (n ≤ k)) → matched_by k c 0 ≡ false
    matched_dead k (inl lt) = refl
    matched_dead k (inr ge) = refl

    measures_by : (k : ℕ) (c : (k < n) ⊎ (n ≤ k)) → k < n → Measures (nfa_by k c) (pattern_at ps k)
    measures_by k (inl lt) within = subst (Measures ((S k lt).nfa 0)) (sym (are k lt)) ((S k lt).measures 0 (omega arith))
    measures_by k (inr ge) within = absurd (omega arith)

    threads_some : (k : ℕ) (lt : k < n) (r : ℕ) → r ≢ 0 → threads_by k (inl lt) r ≡ (S k lt).threads r 0
    threads_some k lt zero other = absurd (other refl)
    threads_some k lt (suc r) other = refl

    begins_by : (k : ℕ) (c : (k < n) ⊎ (n ≤ k)) → k < n → threads_by k c (sa k) ≡ (nfa_by k c).start ∷ []
    begins_by k (inl lt) within = threads_some k lt (sa k) (begun k lt) ∙ (S k lt).begins 0 (omega arith)
    begins_by k (inr ge) within = absurd (omega arith)

    module _ (hay : List ℕ) (bytes : All (λ x. x < 256) hay) where
      table_of : (k : ℕ) (lt : k < n) → IsTableOn (na k) (wa k) (sa k) 1 (S k lt).nfa (S k lt).threads (S k lt).matched hay
      table_of k lt = (S k lt).table hay bytes

      threads_any : (k : ℕ) (lt : k < n) (r : ℕ) → threads_by k (inl lt) r ≡ (S k lt).threads r 0
      threads_any k lt zero = sym ((table_of k lt).dead 0)
      threads_any k lt (suc r) = refl

      matched_won : (k : ℕ) (c : (k < n) ⊎ (n ≤ k)) (r : ℕ) → k < n → won wa k r ≡ matched_by k c r
      matched_won k c zero within = ap is_some (quiet k within) ∙ sym (matched_dead k c)
      matched_won k (inl lt) (suc r) within = sym (one_match ((S k lt).matched (suc r)) (slice_index_or (wa k) (suc r) None) ((table_of k lt).wins_are (suc r)))
      matched_won k (inr ge) (suc r) within = absurd (omega arith)

      moves_by : (k : ℕ) (c : (k < n) ⊎ (n ≤ k)) (j r : ℕ) → k < n → j ≤ length hay → IsAt (sa k) r j →
          MovesForward (nfa_by k c) (λ l. holds l hay j) (threads_by k c r) (slice_get hay j) (threads_by k c (step_row (na k) r (slice_get hay j))) (matched_by k c r)
      moves_by k (inr ge) j r within le at = absurd (omega arith)
      moves_by k (inl lt) j zero within le at = moves_none ((S k lt).nfa 0) (λ l. holds l hay j) (slice_get hay j)
      moves_by k (inl lt) j (suc r) within le at =
          subst (λ qs. MovesForward ((S k lt).nfa 0) (λ l. holds l hay j) ((S k lt).threads (suc r) 0) (slice_get hay j) qs ((S k lt).matched (suc r) 0))
          (sym (threads_any k lt (next_of (na k) (suc r) (slice_get hay j))))
          ((table_of k lt).moves j (suc r) 0 (omega arith) le at)

      wins_all : (r : ℕ) → IsFirstMatch n (λ k. matched_by k (cases_lt k n) (row_of k r)) (slice_index_or wins r None)
      wins_all r = elim (cases_lt r (length rows)) [
        | inl lt ↦
            subst (IsFirstMatch n (λ k. matched_by k (cases_lt k n) (row_of k r))) (sym (built.wins_are r (omega arith)))
            (first_as n (λ k. won wa k (row_of k r)) (λ k. matched_by k (cases_lt k n) (row_of k r)) (first_among wa (live_rows_at rows r))
            (λ k within. matched_won k (cases_lt k n) (row_of k r) within)
            (first_is wa 0 n (live_rows_at rows r) (built.rising r) (λ k within. ap is_some (quiet k within))))
        | inr past ↦
            subst (IsFirstMatch n (λ k. matched_by k (cases_lt k n) (row_of k r))) (sym (get_or_past wins r None (omega arith)))
            (λ k within. ap (matched_by k (cases_lt k n)) (row_past k r past) ∙ matched_dead k (cases_lt k n))
      ]

      moves_all : (j r k : ℕ) → k < n → j ≤ length hay → IsAt 1 r j →
          MovesForward (nfa_by k (cases_lt k n)) (λ l. holds l hay j) (threads_by k (cases_lt k n) (row_of k r)) (slice_get hay j)
          (threads_by k (cases_lt k n) (row_of k (next_of next r (slice_get hay j)))) (matched_by k (cases_lt k n) (row_of k r))
      moves_all j r k lt le at =
          let c = cases_lt k n in
          subst (λ x. MovesForward (nfa_by k c) (λ l. holds l hay j) (threads_by k c (row_of k r)) (slice_get hay j) (threads_by k c x) (matched_by k c (row_of k r)))
          (sym (row_after k r (slice_get hay j) (byte_at hay j bytes)))
          (moves_by k c j (row_of k r) lt le (row_is_at k r j lt at))

    -- the table of the group serves all of its patterns
    pub serves_group : Serves next wins 1 ps
    serves_group = record {
      nfa = λ k. nfa_by k (cases_lt k n);
      threads = λ r k. threads_by k (cases_lt k n) (row_of k r);
      matched = λ r k. matched_by k (cases_lt k n) (row_of k r);
      measures = λ k lt. measures_by k (cases_lt k n) (omega arith);
      begins = λ k lt. let within : k < n = omega arith in ap (threads_by k (cases_lt k n)) (row_first k within) ∙ begins_by k (cases_lt k n) within;
      table = λ hay bytes. record {
        dead = λ k. ap (threads_by k (cases_lt k n)) (row_dead k) ∙ threads_dead k (cases_lt k n);
        wins_are = λ r. subst (λ m. IsFirstMatch m (λ k. matched_by k (cases_lt k n) (row_of k r)) (slice_index_or wins r None)) (sym count) (wins_all hay bytes r);
        fresh = λ r b. built.fresh (r * 256 + b);
        moves = λ j r k lt le at. moves_all hay bytes j r k (omega arith) le at;
      };
    }

-- ---- the tables of a cache

pub start_of_some : (o : Option Table) → IsSome o → start_of o ≢ 0
start_of_some None some = absurd (cc)
start_of_some (Some t) some = t.sound.5

pub wins_of_none : (o : Option Table) → slice_index_or (wins_of o) 0 None ≡ None
wins_of_none None = get_or_past {X = Option ℕ} [] 0 None (omega arith)
wins_of_none (Some t) = t.sound.4

table_serves : (ps : List Re) (o : Option Table) → IfSome o (IsTableOf ps) → IsSome o → Serves (nexts_of o) (wins_of o) (start_of o) ps
table_serves ps None serves some = absurd (cc)
table_serves ps (Some t) serves some = serves

cached_serves : (pattern : ℕ → Re) (cache : List CachedTable) (place : ℕ) (o : Option CachedTable) → AreCached pattern cache → slice_get cache place ≡ o →
    IsSome (cached_table o) → Serves (nexts_of (cached_table o)) (wins_of (cached_table o)) (start_of (cached_table o)) (pattern place ∷ [])
cached_serves pattern cache place None cached is some = absurd (cc)
cached_serves pattern cache place (Some s) cached is some = table_serves (pattern place ∷ []) s.table (cached place s is) some

-- the table of pattern k of the group
pub group_serves : (pattern : ℕ → Re) (cache : List CachedTable) (places : List ℕ) → AreCached pattern cache → AreTabled cache places → (k : ℕ) → k < length places →
    Serves (nexts_in cache places k) (wins_in cache places k) (start_in cache places k) (pattern (slice_index_or places k 0) ∷ [])
group_serves pattern cache places cached tabled k lt =
    let place = slice_index_or places k 0 in
    let here : slice_get places k ≡ Some place = slice_get-get_or places k 0 lt in
    subst (λ o. Serves (nexts_of (cached_at cache o)) (wins_of (cached_at cache o)) (start_of (cached_at cache o)) (pattern place ∷ [])) (sym here)
    (cached_serves pattern cache place (slice_get cache place) cached refl (subst (λ o. IsSome (cached_at cache o)) here (tabled k lt)))
