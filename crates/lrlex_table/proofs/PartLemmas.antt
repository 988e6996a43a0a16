-- The parts of a list of patterns: their patterns rise, and each pattern has a table or is matched by `regex`.
use Rattle.std.proofs.Common.{◌≡◌, ◌≢◌, ℕ, zero, suc, ◌+◌, ◌-◌, ◌<◌, ◌≤◌, ◌==◌, true, false, List, All, [], ◌∷◌, ◌++◌, length, map, take, drop, set, get_or, refl, sym, ap, ◌∙◌, subst, inl, inr, arith, get_or-set_other, get_or-set_same}
use Rattle.std.proofs.lemmas.Bool.{cases_lt, or_cases, or_parts, or_from, or_left, or_right, eqb-true, eq-eqb}
use Rattle.std.proofs.lemmas.List.{map-append, get_or_at, get_or-map, get_or-take, get_or-drop, length-append, length-set, length-map, length-take-le, length-drop, same_lists}
use Rattle.std.proofs.lemmas.List.Elements.{All-nil, All-push, All-get_or, All-weaker}
use Rattle.std.proofs.lemmas.List.Folds.{list_any-append}
use Rattle.std.proofs.lemmas.Option.{slice_get_within, slice_get-get_or, get_or_from_slice_get}
use Rattle.std.specs.List.{slice_range}
use Rattle.std.specs.Prelude.{IfSome}
use Rattle.regex.specs.Patterns.{Re, empty}
use Rattle.lrlex_table.specs.Table.{pattern_at, IsTableOf}
use Rattle.lrlex_table.specs.declared.cached_table.CachedTable.{CachedTable}
use Rattle.lrlex_table.specs.declared.merged_tables.Part.{Part}
use Rattle.lrlex_table.specs.Tables.{is_among, is_tabled, AreCached, AreRising, patterns_at, IsPartOf, AreParts, Covers, ArePartsOf}

-- ---- numbers that rise

pub rising_bounds : (lo hi : ℕ) (xs : List ℕ) → AreRising lo hi xs → lo ≤ hi
rising_bounds lo hi [] r = r
rising_bounds lo hi (x ∷ xs) r = omega (arith, r.0, rising_bounds (x + 1) hi xs r.1)

pub rising_wider : (lo hi low high : ℕ) (xs : List ℕ) → low ≤ lo → hi ≤ high → AreRising lo hi xs → AreRising low high xs
rising_wider lo hi low high [] below above r = omega (arith, r)
rising_wider lo hi low high (x ∷ xs) below above r =
    (omega (arith, r.0), rising_wider (x + 1) hi (x + 1) high xs (omega arith) above r.1)

pub rising_append : (lo middle hi : ℕ) (xs ys : List ℕ) → AreRising lo middle xs → AreRising middle hi ys → AreRising lo hi (xs ++ ys)
rising_append lo middle hi [] ys a b = rising_wider middle hi lo hi ys a (omega arith) b
rising_append lo middle hi (x ∷ xs) ys a b = (a.0, rising_append (x + 1) middle hi xs ys a.1 b)

pub rising_push : (lo n : ℕ) (xs : List ℕ) → AreRising lo n xs → AreRising lo (n + 1) (xs ++ n ∷ [])
rising_push lo n xs r = rising_append lo n (n + 1) xs (n ∷ []) r (omega arith, omega arith)

pub rising_within : (lo hi : ℕ) (xs : List ℕ) (i : ℕ) → AreRising lo hi xs → i < length xs → (lo ≤ get_or xs i 0) × (get_or xs i 0 < hi)
rising_within lo hi [] i r lt = absurd (omega arith)
rising_within lo hi (x ∷ xs) zero r lt = (r.0, omega (arith, rising_bounds (x + 1) hi xs r.1))
rising_within lo hi (x ∷ xs) (suc i) r lt =
    let at = rising_within (x + 1) hi xs i r.1 (omega arith) in (omega (arith, r.0, at.0), at.1)

pub rising_lt : (lo hi : ℕ) (xs : List ℕ) (i j : ℕ) → AreRising lo hi xs → i < j → j < length xs → get_or xs i 0 < get_or xs j 0
rising_lt lo hi [] i j r lt within = absurd (omega arith)
rising_lt lo hi (x ∷ xs) i zero r lt within = absurd (omega arith)
rising_lt lo hi (x ∷ xs) zero (suc j) r lt within = omega (arith, (rising_within (x + 1) hi xs j r.1 (omega arith)).0)
rising_lt lo hi (x ∷ xs) (suc i) (suc j) r lt within = rising_lt (x + 1) hi xs i j r.1 (omega arith) (omega arith)

-- a lesser number is earlier
pub rising_order : (lo hi : ℕ) (xs : List ℕ) (i j : ℕ) → AreRising lo hi xs → i < length xs → get_or xs i 0 < get_or xs j 0 → i < j
rising_order lo hi xs i j r within lt = elim (cases_lt i j) [
  | inl less ↦ less
  | inr ge ↦ elim (cases_lt j i) [
    | inl more ↦ absurd (omega (arith, rising_lt lo hi xs j i r more within))
    | inr le ↦ let same : get_or xs i 0 ≡ get_or xs j 0 = ap (λ k. get_or xs k 0) (omega arith) in absurd (omega arith)
  ]
]

-- below a bound that all keep
rising_until : (lo hi top : ℕ) (xs : List ℕ) → AreRising lo hi xs → lo ≤ top → ((i : ℕ) → i < length xs → get_or xs i 0 < top) → AreRising lo top xs
rising_until lo hi top [] r le below = le
rising_until lo hi top (x ∷ xs) r le below =
    (r.0, rising_until (x + 1) hi top xs r.1 (omega (arith, below 0 (omega arith))) (λ i lt. below (suc i) (omega arith)))

-- two lists, where the last of the one is less than the first of the other
pub rising_join : (lo hi : ℕ) (xs ys : List ℕ) → AreRising lo hi xs → AreRising lo hi ys → 0 < length xs → 0 < length ys →
    get_or xs (length xs - 1) 0 < get_or ys 0 0 → AreRising lo hi (xs ++ ys)
rising_join lo hi xs [] a b some other lt = absurd (omega arith)
rising_join lo hi xs (y ∷ ys) a b some other lt =
    let first = rising_within lo hi xs 0 a some in
    let below : (i : ℕ) → i < length xs → get_or xs i 0 < y =
    λ i within. elim (cases_lt i (length xs - 1)) [
      | inl less ↦ omega (arith, rising_lt lo hi xs i (length xs - 1) a less (omega arith))
      | inr ge ↦ let same : get_or xs i 0 ≡ get_or xs (length xs - 1) 0 = ap (λ k. get_or xs k 0) (omega arith) in omega arith
    ] in
    rising_append lo y hi xs (y ∷ ys) (rising_until lo hi y xs a (omega (arith, first.0, below 0 some)) below) (omega arith, b.1)

-- ---- which patterns have a table

pub among_at : (xs : List ℕ) (k : ℕ) → is_among xs k ≡ true → (i : ℕ) × (i < length xs) × (get_or xs i 0 ≡ k)
among_at [] k h = absurd (cc)
among_at (x ∷ xs) k h = elim (or_cases (x == k) (is_among xs k) h) [
  | inl here ↦ (0, omega arith, eqb-true x k here)
  | inr there ↦ let at = among_at xs k there in (suc at.0, omega (arith, at.1), at.2)
]

pub among_one : (k j : ℕ) → k ≡ j → is_among (k ∷ []) j ≡ true
among_one k j e = or_left (k == j) false (eq-eqb k j e)

pub among_more : (xs : List ℕ) (n : ℕ) → ((k : ℕ) → k < n → is_among xs k ≡ true) → (k : ℕ) → k < n + 1 → is_among (xs ++ n ∷ []) k ≡ true
among_more xs n all k lt = list_any-append (λ j. j == k) xs (n ∷ []) ∙ elim (cases_lt k n) [
  | inl low ↦ or_left (is_among xs k) (is_among (n ∷ []) k) (all k low)
  | inr high ↦ or_right (is_among xs k) (is_among (n ∷ []) k) (among_one n k (omega arith))
]

-- one of the parts takes the patterns of another
pub covers_set : (parts : List Part) (at : ℕ) (d both part : Part) → at < length parts →
    both.patterns.items ≡ (get_or parts at d).patterns.items ++ part.patterns.items → Covers (set parts at both) (part ∷ parts)
covers_set [] at d both part lt is k none = absurd (omega arith)
covers_set (p ∷ ps) zero d both part lt is k none =
    let old = or_parts (is_among both.patterns.items k) (is_tabled ps k) none in
    let split = or_parts (is_among p.patterns.items k) (is_among part.patterns.items k)
    (sym (list_any-append (λ j. j == k) p.patterns.items part.patterns.items) ∙ sym (ap (λ xs. is_among xs k) is) ∙ old.0) in
    or_from (is_among part.patterns.items k) (is_tabled (p ∷ ps) k) split.1 (or_from (is_among p.patterns.items k) (is_tabled ps k) split.0 old.1)
covers_set (p ∷ ps) (suc i) d both part lt is k none =
    let old = or_parts (is_among p.patterns.items k) (is_tabled (set ps i both) k) none in
    let rest = or_parts (is_among part.patterns.items k) (is_tabled ps k) (covers_set ps i d both part (omega arith) is k old.1) in
    or_from (is_among part.patterns.items k) (is_tabled (p ∷ ps) k) rest.0 (or_from (is_among p.patterns.items k) (is_tabled ps k) old.0 rest.1)

pub covers_push : (parts : List Part) (part : Part) → Covers (parts ++ part ∷ []) (part ∷ parts)
covers_push parts part k none =
    let split = or_parts (is_tabled parts k) (is_tabled (part ∷ []) k) (sym (list_any-append (λ (p : Part). is_among p.patterns.items k) parts (part ∷ [])) ∙ none) in
    let last = or_parts (is_among part.patterns.items k) false split.1 in
    or_from (is_among part.patterns.items k) (is_tabled parts k) last.0 split.0

-- no pattern has a table among two lists of parts
abbrev pub Neither : List Part → List Part → ℕ → Type 0
Neither xs ys k = (is_tabled xs k ≡ false) × (is_tabled ys k ≡ false)

pub neither_more : (new old xs ys : List Part) (part : Part) → Covers new (part ∷ old) → ((k : ℕ) → is_tabled old k ≡ false → Neither xs ys k) →
    (k : ℕ) → is_tabled new k ≡ false → Neither xs (ys ++ part ∷ []) k
neither_more new old xs ys part covers before k none =
    let split = or_parts (is_among part.patterns.items k) (is_tabled old k) (covers k none) in
    let both = before k split.1 in (
      both.0,
      list_any-append (λ (p : Part). is_among p.patterns.items k) ys (part ∷ [])
          ∙ or_from (is_tabled ys k) (is_tabled (part ∷ []) k) both.1 (or_from (is_among part.patterns.items k) false split.0 refl),
    )

-- ---- parts of a list of patterns

pub part_wider : (ps : List Re) (lo hi low high : ℕ) (p : Part) → low ≤ lo → hi ≤ high → IsPartOf ps lo hi p → IsPartOf ps low high p
part_wider ps lo hi low high p below above is = record {
  rises = rising_wider lo hi low high p.patterns.items below above is.rises;
  table = is.table;
}

pub parts_wider : (ps : List Re) (lo hi low high : ℕ) (parts : List Part) → low ≤ lo → hi ≤ high → AreParts ps lo hi parts → AreParts ps low high parts
parts_wider ps lo hi low high parts below above are =
    All-weaker (IsPartOf ps lo hi) (IsPartOf ps low high) (λ p. part_wider ps lo hi low high p below above) parts are

pub part_joined : (ps : List Re) (lo hi : ℕ) (a b p : Part) → IsPartOf ps lo hi a → IsPartOf ps lo hi b → 0 < length a.patterns.items → 0 < length b.patterns.items →
    get_or a.patterns.items (length a.patterns.items - 1) 0 < get_or b.patterns.items 0 0 → p.patterns.items ≡ a.patterns.items ++ b.patterns.items →
    IsTableOf (map (λ k. pattern_at ps k) a.patterns.items ++ map (λ k. pattern_at ps k) b.patterns.items) p.table → IsPartOf ps lo hi p
part_joined ps lo hi a b p left right some other lt is table = record {
  rises = subst (AreRising lo hi) (sym is) (rising_join lo hi a.patterns.items b.patterns.items left.rises right.rises some other lt);
  table = subst (λ qs. IsTableOf qs p.table) (sym (map-append (λ k. pattern_at ps k) a.patterns.items b.patterns.items) ∙ ap (map (λ k. pattern_at ps k)) (sym is)) table;
}

pub one_part : (ps : List Re) (pattern : ℕ) (p : Part) → p.patterns.items ≡ pattern ∷ [] → IsTableOf (pattern_at ps pattern ∷ []) p.table → ArePartsOf ps pattern (pattern + 1) (p ∷ []) []
one_part ps pattern p is table = record {
  are = All-push (IsPartOf ps pattern (pattern + 1)) [] p (All-nil (IsPartOf ps pattern (pattern + 1))) (record {
    rises = subst (AreRising pattern (pattern + 1)) (sym is) (omega arith, omega arith);
    table = subst (λ xs. IsTableOf (map (λ k. pattern_at ps k) xs) p.table) (sym is) table;
  });
  rises = omega arith;
  each = λ k ge lt none.
      let among : is_among p.patterns.items k ≡ true = ap (λ xs. is_among xs k) is ∙ among_one pattern k (omega arith) in
      let missing : is_among p.patterns.items k ≡ false = (or_parts (is_among p.patterns.items k) false none).0 in
      absurd (cc);
}

pub one_asked : (ps : List Re) (pattern : ℕ) → ArePartsOf ps pattern (pattern + 1) [] (pattern ∷ [])
one_asked ps pattern = record {
  are = All-nil (IsPartOf ps pattern (pattern + 1));
  rises = (omega arith, omega arith);
  each = λ k ge lt none. among_one pattern k (omega arith);
}

-- an element of a list
pub all_at : {X : Type 0} (P : X → Type 0) (all before after : List X) (x : X) → All P all → before ++ x ∷ after ≡ all → P x
all_at P all before after x each is =
    subst P (ap (λ xs. get_or xs (length before) x) (sym is) ∙ get_or_at before x after x (length before) refl)
    (All-get_or P all (length before) x (omega (arith, ap length is, length-append before (x ∷ after))) each)

pub parts_both : (ps : List Re) (lo middle hi : ℕ) (left right new : List Part) (asked also : List ℕ) → ArePartsOf ps lo middle left asked → ArePartsOf ps middle hi right also →
    AreParts ps lo hi new → ((k : ℕ) → is_tabled new k ≡ false → Neither left right k) → ArePartsOf ps lo hi new (asked ++ also)
parts_both ps lo middle hi left right new asked also l r are covers = record {
  are = are;
  rises = rising_append lo middle hi asked also l.rises r.rises;
  each = λ k ge lt none. list_any-append (λ j. j == k) asked also ∙ elim (cases_lt k middle) [
    | inl low ↦ or_left (is_among asked k) (is_among also k) (l.each k ge low (covers k none).0)
    | inr high ↦ or_right (is_among asked k) (is_among also k) (r.each k high lt (covers k none).1)
  ];
}

pub none_tabled : (ps : List Re) (n : ℕ) (asked : List ℕ) → AreRising 0 n asked → ((k : ℕ) → k < n → is_among asked k ≡ true) → ArePartsOf ps 0 n [] asked
none_tabled ps n asked rises all = record {
  are = All-nil (IsPartOf ps 0 n);
  rises = rises;
  each = λ k ge lt none. all k lt;
}

-- what rises from lo on is at each place at least as far on, and grows by one at least from place to place
rising_at : (lo hi : ℕ) (xs : List ℕ) (i : ℕ) → AreRising lo hi xs → i < length xs → lo + i ≤ get_or xs i 0
rising_at lo hi [] i r lt = absurd (omega arith)
rising_at lo hi (x ∷ xs) zero r lt = omega (arith, r.0)
rising_at lo hi (x ∷ xs) (suc i) r lt = omega (arith, rising_at (x + 1) hi xs i r.1 (omega arith), r.0)

rising_gap : (lo hi : ℕ) (xs : List ℕ) (i j : ℕ) → AreRising lo hi xs → i ≤ j → j < length xs → get_or xs i 0 + (j - i) ≤ get_or xs j 0
rising_gap lo hi [] i j r le lt = absurd (omega arith)
rising_gap lo hi (x ∷ xs) zero zero r le lt = omega arith
rising_gap lo hi (x ∷ xs) zero (suc j) r le lt = omega (arith, rising_at (x + 1) hi xs j r.1 (omega arith))
rising_gap lo hi (x ∷ xs) (suc i) zero r le lt = absurd (omega arith)
rising_gap lo hi (x ∷ xs) (suc i) (suc j) r le lt = omega (arith, rising_gap (x + 1) hi xs i j r.1 (omega arith) (omega arith))

-- where the last is its own place, so is each
pub rising_whole : (hi : ℕ) (xs : List ℕ) (k : ℕ) → AreRising 0 hi xs → k < length xs → get_or xs (length xs - 1) 0 ≡ length xs - 1 → get_or xs k 0 ≡ k
rising_whole hi xs k r lt last = omega (arith, rising_at 0 hi xs k r lt, rising_gap 0 hi xs k (length xs - 1) r (omega arith) (omega arith), last)

-- ---- the cache

pub cached_at : (pattern : ℕ → Re) (cache : List CachedTable) (at : ℕ) (d : CachedTable) → at < length cache → AreCached pattern cache →
    IfSome (get_or cache at d).table (IsTableOf (pattern at ∷ []))
cached_at pattern cache at d lt are = are at (get_or cache at d) (slice_get-get_or cache at d lt)

pub cached_set : (pattern : ℕ → Re) (cache : List CachedTable) (at : ℕ) (s : CachedTable) → at < length cache → AreCached pattern cache →
    IfSome s.table (IsTableOf (pattern at ∷ [])) → AreCached pattern (set cache at s)
cached_set pattern cache at s lt are is k t here =
    let found = get_or_from_slice_get (set cache at s) k t t here in
    let within = slice_get_within (set cache at s) k t here in
    let other : k ≢ at → IfSome t.table (IsTableOf (pattern k ∷ [])) =
    λ ne.
    let same : get_or cache k t ≡ t = sym (get_or-set_other cache at k s t ne) ∙ found in
    subst (λ (u : CachedTable). IfSome u.table (IsTableOf (pattern k ∷ []))) same (cached_at pattern cache k t (omega (arith, within, length-set cache at s)) are) in
    elim (cases_lt k at) [
      | inl low ↦ other (omega arith)
      | inr ge ↦ elim (cases_lt at k) [
        | inl high ↦ other (omega arith)
        | inr le ↦
            let e : at ≡ k = omega arith in
            let same : s ≡ t = sym (get_or-set_same cache at s t lt) ∙ ap (λ i. get_or (set cache at s) i t) e ∙ found in
            subst (λ (u : CachedTable). IfSome u.table (IsTableOf (pattern k ∷ []))) same (subst (λ i. IfSome s.table (IsTableOf (pattern i ∷ []))) e is)
      ]
    ]

-- ---- the table of a group

pub among_here : (xs : List ℕ) (i k : ℕ) → i < length xs → get_or xs i 0 ≡ k → is_among xs k ≡ true
among_here [] i k lt is = absurd (omega arith)
among_here (x ∷ xs) zero k lt is = or_left (x == k) (is_among xs k) (eq-eqb x k is)
among_here (x ∷ xs) (suc i) k lt is = or_right (x == k) (is_among xs k) (among_here xs i k (omega arith) is)

-- the patterns whose places are from..to of the list's are those with these numbers
pub range_patterns : (pattern : ℕ → Re) (places : List ℕ) (from to : ℕ) (ns : List ℕ) → from ≤ to → to ≤ length places → length ns ≡ to - from →
    ((i : ℕ) → i < to - from → get_or ns i 0 ≡ from + i) → map pattern (slice_range places from to) ≡ patterns_at (map pattern places) ns
range_patterns pattern places from to ns order within len each =
    let ps = map pattern places in
    let f : ℕ → Re = λ k. pattern_at ps k in
    let rest = drop from places in
    let some = take (to - from) rest in
    let len_some : length some ≡ to - from = length-take-le (to - from) rest (omega (arith, length-drop from places)) in
    same_lists (map pattern some) (map f ns) (length-map some pattern ∙ len_some ∙ sym len ∙ sym (length-map ns f))
    (λ k d lt.
    let low : k < to - from = omega (arith, lt, length-map some pattern, len_some) in
    get_or-map pattern some k 0 d (omega (arith, low, len_some))
    ∙ ap pattern (get_or-take (to - from) rest k 0 low ∙ get_or-drop from places k 0)
    ∙ sym (get_or-map pattern places (from + k) 0 empty (omega (arith, low, within)))
    ∙ ap f (sym (each k low))
    ∙ sym (get_or-map f ns k 0 d (omega (arith, low, len))))

pub grouped_parts : (pattern : ℕ → Re) (places : List ℕ) (from to : ℕ) (p : Part) → from ≤ to → to ≤ length places → AreRising from to p.patterns.items →
    length p.patterns.items ≡ to - from → ((i : ℕ) → i < to - from → get_or p.patterns.items i 0 ≡ from + i) →
    IsTableOf (map pattern (slice_range places from to)) p.table → ArePartsOf (map pattern places) from to (p ∷ []) []
grouped_parts pattern places from to p order within rises len each table =
    let ps = map pattern places in
    let ns = p.patterns.items in record {
      are = All-push (IsPartOf ps from to) [] p (All-nil (IsPartOf ps from to)) (record {
        rises = rises;
        table = subst (λ qs. IsTableOf qs p.table) (range_patterns pattern places from to ns order within len each) table;
      });
      rises = order;
      each = λ k ge lt none.
          let among : is_among ns k ≡ true = among_here ns (k - from) k (omega (arith, ge, lt, len)) (each (k - from) (omega (arith, ge, lt)) ∙ omega (arith, ge)) in
          let missing : is_among ns k ≡ false = (or_parts (is_among ns k) false none).0 in
          absurd (cc);
    }
