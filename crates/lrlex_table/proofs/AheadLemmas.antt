-- Where marks cut, patterns win.
use Rattle.std.proofs.Common.{◌≡◌, zero, suc, ℕ, ◌+◌, ◌-◌, ◌<◌, ◌≤◌, true, List, All, [], ◌∷◌, ◌++◌, length, take, drop, get_or, IsUtf8, Some, None, slice_get, slice_index_or, refl, sym, ap, ◌∙◌, subst, inl, inr, arith}
use Rattle.std.specs.Prelude.{IsCharBoundary}
use Rattle.std.proofs.lemmas.List.{append-nil, drop_all, take_all, length-drop, length-take, get_or-drop, get_or-take, get_or_read}
use Rattle.std.proofs.lemmas.List.Elements.{All-get_or, All-drop, All-nil, All-push}
use Rattle.std.proofs.lemmas.Option.{slice_get_cases}
use Rattle.std.proofs.lemmas.Str.{IsUtf8-drop}
use Rattle.regex.specs.Patterns.{Re}
use Rattle.lrlex_table.specs.Table.{next_rows, IsLongest}
use Rattle.lrlex_table.specs.Reach.{IsText, IsDecidedBy}
use Rattle.lrlex_table.specs.Tables.{is_among, is_tabled, patterns_at, AreTablesOf, IsBestAmong, IsPartOf}
use Rattle.lrlex_table.specs.Chain.{list_of, name_of, row_at, IsIn, IsChainOf, NamesWinners, IsChainOfLists, IsCut, IsWonBy, no_mark, end_of, row_of, begin_of}
use Rattle.lrlex_table.specs.Ahead.{IsFoundIn, IsWonAt, AreWonAhead, AreAheadIn, AreBestIn, IsBestUpTo, begin_at}
use Rattle.lrlex_table.specs.declared.chain.Chain.{Chain}
use Rattle.lrlex_table.specs.declared.marks.Mark.{Mark}
use Rattle.lrlex_table.specs.declared.ahead.Ahead.{Ahead}
use Rattle.lrlex_table.specs.declared.merged_tables.Part.{Part}
use Rattle.lrlex_table.specs.declared.tables.Tables.{Tables}
use Rattle.lrlex_table.proofs.CellLemmas.{some_of}
use Rattle.lrlex_table.proofs.ChainLemmas.{cut_ends}
use Rattle.lrlex_table.proofs.LongestLemmas.{longest_in_row, decided_in_row}
use Rattle.lrlex_table.proofs.WinnerLemmas.{best_of_fewer, part_matches_best, decided_part, decided_all, either_false}

-- what was written through a slice of all of a list stands in it
pub written_back : {X : Type 0} (new old : List X) (n : ℕ) → length old ≡ n → length new ≡ length old → take n (new ++ drop (length new) old) ≡ new
written_back new old n all same =
    ap (λ xs. take n (new ++ xs)) (drop_all (length new) old (omega (arith, same))) ∙ ap (take n) (append-nil new) ∙ take_all n new (omega (arith, all, same))

pub one_part : (parts : List Part) → length parts ≡ 1 → (p : Part) × (parts ≡ p ∷ [])
one_part [] one = absurd (omega arith)
one_part (p ∷ []) one = (p, refl)
one_part (p ∷ q ∷ ps) one = absurd (omega arith)

-- the only part has what all have
pub of_all : (P : Part → Type 0) (parts : List Part) (p : Part) → parts ≡ p ∷ [] → All P parts → P p
of_all P parts p only all = All-get_or P (p ∷ []) 0 p (omega arith) (subst (All P) only all)

pub to_all : (P : Part → Type 0) (parts : List Part) (p : Part) → parts ≡ p ∷ [] → P p → All P parts
to_all P parts p only here = subst (All P) (sym only) (All-push P [] p (All-nil P) here)

-- a match by the only table
module _ (ts : Tables) (text : List ℕ) (bytes : All (λ b. b < 256) text) (utf8 : IsUtf8 text) (place k n : ℕ) (is : IsWonAt ts text place k n) (ps : List Re) (are : AreTablesOf ps ts) where
  only : (p : Part) × (ts.parts.items ≡ p ∷ [])
  only = one_part ts.parts.items is.1

  in_part : (j : ℕ) → is_tabled ts.parts.items j ≡ true → is_among only.0.patterns.items j ≡ true
  in_part j some = either_false (is_among only.0.patterns.items j) (subst (λ xs. is_tabled xs j ≡ true) only.1 some)

  part_is : IsPartOf ps 0 (length ps) only.0
  part_is = of_all (IsPartOf ps 0 (length ps)) ts.parts.items only.0 only.1 are.are

  won : IsWonBy only.0 (drop place text) k n
  won = of_all (λ p. IsWonBy p (drop place text) k n) ts.parts.items only.0 only.1 is.4

  rest_is : IsText (drop place text)
  rest_is = record { bytes = All-drop (λ b. b < 256) place text bytes; utf8 = IsUtf8-drop text place utf8 is.3 }

  pub won_best : (0 < n) × IsBestAmong ps (is_tabled ts.parts.items) (drop place text) k n
  won_best =
      let p = only.0 in
      let t = p.table in
      let hay = drop place text in
      let row = row_at t hay n in
      let ends = cut_ends t hay n row won.0 in
      let wins = some_of (slice_index_or t.wins.items row None) won.0.3 in
      let longest : IsLongest (patterns_at ps p.patterns.items) hay wins.0 n
      = longest_in_row (next_rows t) t.wins.items t.start (patterns_at ps p.patterns.items) hay (n + 1) n row part_is.table ends (omega (arith, won.0.1)) rest_is wins.0 wins.1 in
      let best = part_matches_best ps p.patterns.items hay wins.0 n part_is.rises longest in
      (won.0.0, best_of_fewer ps (is_among p.patterns.items) (is_tabled ts.parts.items) hay k n in_part (subst (λ j. IsBestAmong ps (is_among p.patterns.items) hay j n) (sym (won.1 wins.0 wins.1)) best))

  pub won_decided : IsDecidedBy ps (drop place text) (n + 1)
  won_decided =
      let p = only.0 in
      let t = p.table in
      let hay = drop place text in
      let row = row_at t hay n in
      let ends = cut_ends t hay n row won.0 in
      let among = decided_part ps p.patterns.items hay (n + 1) (decided_in_row (next_rows t) t.wins.items t.start (patterns_at ps p.patterns.items) hay (n + 1) n row part_is.table ends (omega (arith, won.0.1)) rest_is) in
      decided_all ps ts.parts.items ts.asked.items hay (n + 1) are is.0 (λ other also same j lt some. among other also same j lt (in_part j some))

-- what the marks of a chain cut, where list m is in the chain
module _ (lists : List Tables) (c : Chain) (all : IsChainOfLists lists c) (text : List ℕ) (from : ℕ) (a : Ahead) (begins : IsCharBoundary text from) (is : IsFoundIn c text from a)
    (m : ℕ) (here : IsIn c m) where
  -- each match ends in a row of the chain, and between characters
  in_row : (k : ℕ) → k < a.count → (row_of a.marks.items k < length c.bases.items) × IsCharBoundary text (from + end_of a.marks.items k)
  in_row k lt = elim (slice_get_cases lists m).1 [
    | inl known ↦
        let ts = known.0 in
        let its = all.each m ts here known.2 in
        let one = one_part ts.parts.items its.1 in
        let cut = is.cut one.0.table m (of_all (λ p. IsChainOf p.table m c × NamesWinners p m c) ts.parts.items one.0 one.1 its.2).0 k lt in
        (cut.0, cut.1)
    | inr past ↦ absurd (omega (arith, past.0, all.within m here))
  ]

  within : (k : ℕ) → k < a.count → row_of a.marks.items k < length c.bases.items
  within k lt = (in_row k lt).0

  ends_between : (k : ℕ) → k < a.count → IsCharBoundary text (from + end_of a.marks.items k)
  ends_between k lt = (in_row k lt).1

  bound_at : (k : ℕ) → k < a.count → IsCharBoundary text (from + begin_of 0 a.marks.items k)
  bound_at zero lt =
      let same : from ≡ from + 0 = omega arith in
      subst (IsCharBoundary text) same begins
  bound_at (suc k) lt = ends_between k (omega (arith, lt))

  cut_at : (k : ℕ) → k < a.count → (ts : Tables) → slice_get lists (list_of c (row_of a.marks.items k)) ≡ Some ts →
      (begin_of 0 a.marks.items k < end_of a.marks.items k) × IsWonAt ts text (from + begin_of 0 a.marks.items k) (name_of c (row_of a.marks.items k)) (end_of a.marks.items k - begin_of 0 a.marks.items k)
  cut_at k lt ts there =
      let p = begin_of 0 a.marks.items k in
      let r = row_of a.marks.items k in
      let l = list_of c r in
      let n = end_of a.marks.items k - p in
      let its = all.each l ts (all.rows r (within k lt)) there in
      let one = one_part ts.parts.items its.1 in
      let part = one.0 in
      let t = part.table in
      let chain = of_all (λ p. IsChainOf p.table l c × NamesWinners p l c) ts.parts.items part one.1 its.2 in
      let cut = (is.cut t l chain.0 k lt).2 refl in
      let rest = length-drop (from + p) text in
      let hay = drop (from + p) text in
      let won : IsWonBy part hay (name_of c r) n = (
        subst (IsCut t hay n) (sym cut.1.2) cut.1,
        λ w wins. chain.1 r w (within k lt) refl (ap (λ q. slice_index_or t.wins.items q None) (sym cut.1.2) ∙ wins),
      ) in (
        cut.0,
        (
          its.0,
          its.1,
          omega (arith, cut.1.1, rest),
          bound_at k lt,
          to_all (λ q. IsWonBy q hay (name_of c r) n) ts.parts.items part one.1 won,
        ),
      )

  pub found_between : (k : ℕ) → k < a.count → IsCharBoundary text (a.from + end_of a.marks.items k)
  found_between k lt = subst (λ f. IsCharBoundary text (f + end_of a.marks.items k)) (sym is.from_is) (ends_between k lt)

  pub found_won : AreWonAhead lists c text a
  found_won k lt ts there =
      let p = begin_of 0 a.marks.items k in
      let cut = cut_at k lt ts there in
      (cut.0, subst (λ f. IsWonAt ts text (f + p) (name_of c (row_of a.marks.items k)) (end_of a.marks.items k - p)) (sym is.from_is) cut.1)

-- the next one begins where it was looked for
pub found_begins : (c : Chain) (text : List ℕ) (from : ℕ) (a : Ahead) → IsFoundIn c text from a → a.at < a.count → a.begin ≡ a.from + begin_of 0 a.marks.items a.at
found_begins c text from a is lt =
    let same : begin_of 0 a.marks.items 0 ≡ begin_of 0 a.marks.items a.at = ap (begin_of 0 a.marks.items) (sym is.all) in
    omega (arith, is.begin (omega arith), is.from_is, same)

-- nothing found
pub none_ahead : (text : List ℕ) (a : Ahead) → a.count ≡ 0 → AreAheadIn text a
none_ahead text a none = (omega (arith, none), λ k lt. absurd (omega (arith, none, lt)), λ lt. absurd (omega (arith, none, lt)))

pub none_won : (lists : List Tables) (c : Chain) (text : List ℕ) (a : Ahead) → a.count ≡ 0 → AreWonAhead lists c text a
none_won lists c text a none k lt = absurd (omega (arith, none, lt))

-- where the marks on the left are those on the right from a place on, matches begin alike
begins_at : (marks left : List Mark) (from at place : ℕ) → from + begin_of 0 marks at ≡ place → ((j : ℕ) → j < length left → get_or left j no_mark ≡ get_or marks (at + j) no_mark) →
    (k : ℕ) → k < length left → from + begin_of 0 marks (at + k) ≡ begin_at from place left k
begins_at marks left from at place first same zero lt =
    let here : at + 0 ≡ at = omega arith in
    ap (λ n. from + begin_of 0 marks n) here ∙ first
begins_at marks left from at place first same (suc k) lt =
    let next : at + suc k ≡ suc (at + k) = omega arith in
    let ends : end_of left k ≡ end_of marks (at + k) = ap (λ (x : Mark). x.end) (same k (omega (arith, lt))) in
    ap (λ n. from + begin_of 0 marks n) next ∙ ap (λ n. from + n) (sym ends)

-- the match that begins at the place is the best of its list
best_at : (lists : List Tables) (ts : Tables) (c : Chain) (text : List ℕ) → All (λ b. b < 256) text → IsUtf8 text → (a : Ahead) (at place : ℕ) (m : Mark) → AreWonAhead lists c text a → at < a.count →
    a.from + begin_of 0 a.marks.items at ≡ place → m ≡ get_or a.marks.items at no_mark → slice_get lists (list_of c m.row) ≡ Some ts → IsBestUpTo ts text place (name_of c m.row) (a.from + m.end)
best_at lists ts c text bytes utf8 a at place m won lt begins is there =
    let row : m.row ≡ row_of a.marks.items at = ap (λ (x : Mark). x.row) is in
    let ends : m.end ≡ end_of a.marks.items at = ap (λ (x : Mark). x.end) is in
    let w = won at lt ts (ap (λ r. slice_get lists (list_of c r)) (sym row) ∙ there) in
    let bytes_are : end_of a.marks.items at - begin_of 0 a.marks.items at ≡ a.from + m.end - place = omega (arith, ends, begins, w.0) in
    let here : IsWonAt ts text place (name_of c m.row) (a.from + m.end - place) =
    subst (λ r. IsWonAt ts text place (name_of c r) (a.from + m.end - place)) (sym row)
    (subst (IsWonAt ts text place (name_of c (row_of a.marks.items at))) bytes_are
    (subst (λ p. IsWonAt ts text p (name_of c (row_of a.marks.items at)) (end_of a.marks.items at - begin_of 0 a.marks.items at)) begins w.1)) in
    record {
      tabled = here.0;
      some = omega (arith, ends, begins, w.0);
      within = omega (arith, here.2, ends, begins, w.0);
      best = λ ps are_of. (won_best ts text bytes utf8 place (name_of c m.row) (a.from + m.end - place) here ps are_of).1;
      decided = λ ps are_of. won_decided ts text bytes utf8 place (name_of c m.row) (a.from + m.end - place) here ps are_of;
    }

-- the next match is the best of its list
pub next_best : (lists : List Tables) (ts : Tables) (c : Chain) (text : List ℕ) → All (λ b. b < 256) text → IsUtf8 text → (a : Ahead) (place : ℕ) (m : Mark) → AreAheadIn text a → AreWonAhead lists c text a → a.at < a.count → a.begin ≡ place →
    m ≡ get_or a.marks.items a.at m → slice_get lists (list_of c m.row) ≡ Some ts → IsBestUpTo ts text place (name_of c m.row) (a.from + m.end)
next_best lists ts c text bytes utf8 a place m are won lt begin read =
    best_at lists ts c text bytes utf8 a a.at place m won lt (omega (arith, are.2 lt, begin)) (get_or_read a.marks.items a.at m (omega (arith, lt, are.0)) read no_mark)

-- and so is each that is left, where the next one begins at the place
pub all_best : (lists : List Tables) (c : Chain) (text : List ℕ) → All (λ b. b < 256) text → IsUtf8 text → (a : Ahead) (place : ℕ) → AreAheadIn text a → AreWonAhead lists c text a → a.at < a.count → a.begin ≡ place →
    AreBestIn lists text a.from place (take (a.count - a.at) (drop a.at a.marks.items)) c
all_best lists c text bytes utf8 a place are won lt begin k within ts there =
    let marks = a.marks.items in
    let left = take (a.count - a.at) (drop a.at marks) in
    let len : length left ≤ a.count - a.at = omega (arith, length-take (a.count - a.at) (drop a.at marks)) in
    let at_k : (j : ℕ) → j < length left → get_or left j no_mark ≡ get_or marks (a.at + j) no_mark = λ j l. get_or-take (a.count - a.at) (drop a.at marks) j no_mark (omega (arith, l, len)) ∙ get_or-drop a.at marks j no_mark in
    let begins : (j : ℕ) → j < length left → a.from + begin_of 0 marks (a.at + j) ≡ begin_at a.from place left j = begins_at marks left a.from a.at place (omega (arith, are.2 lt, begin)) at_k in
    best_at lists ts c text bytes utf8 a (a.at + k) (begin_at a.from place left k) (get_or left k no_mark) won (omega (arith, within, len, lt)) (begins k within) (at_k k within) there

-- where the last match that is passed ends the next one begins
pub next_begin : (marks : List Mark) (n : ℕ) → 0 < n → begin_of 0 marks n ≡ end_of marks (n - 1)
next_begin marks zero some = absurd (omega (arith, some))
next_begin marks (suc n) some = ap (end_of marks) (omega arith)

-- no match ends behind the text
pub ends_within : (text : List ℕ) (a : Ahead) (at : ℕ) (m : Mark) → AreAheadIn text a → at < a.count → m ≡ get_or a.marks.items at m → a.from + m.end ≤ length text
ends_within text a at m are lt read =
    let is : m ≡ get_or a.marks.items at no_mark = get_or_read a.marks.items at m (omega (arith, lt, are.0)) read no_mark in
    let ends : m.end ≡ end_of a.marks.items at = ap (λ (x : Mark). x.end) is in
    omega (arith, ends, (are.1 at lt).0)
