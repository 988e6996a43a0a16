-- Which stretch a boundary is in.
use Rattle.std.proofs.Common.{◌≡◌, ℕ, zero, suc, ◌+◌, ◌-◌, ◌<◌, ◌≤◌, ◌≢◌, max, Bool, true, false, cond, leb, ltb, List, [], ◌∷◌, ◌++◌, All, Some, slice_get, length, map, take, drop, get_or, refl, sym, ap, ap₂, ◌∙◌, arith, inl, inr, ◌⊎◌, take-append-drop, length-drop, length-take, length-take-le}
use Rattle.std.proofs.lemmas.Bool.{cases_lt, le-leb, lt-leb}
use Rattle.std.proofs.lemmas.List.{drop_more, get_or-take, get_or-drop, get_or_at, get_or_default, length-map}
use Rattle.std.proofs.lemmas.List.Elements.{All-nil, All-cons, All-head, All-tail, All-more, All-weaker}
use Rattle.std.specs.List.Sorted.{IsPartitionedBy}
use Rattle.std.proofs.lemmas.List.Sorted.{IsPartitionedBy-leb, IsPartitionedBy-ltb}
use Rattle.lrlex_boundaries.specs.Ranges.{AreBefore, AreBegun, AreRising, no_stretch, last_stretch, begun_by, longest, moved_place, moved_stretch, stretch_at}
use Rattle.lrlex_boundaries.specs.declared.stretch.Stretch.{Stretch}

pub last_stretch-some : (b s : Stretch) (ss : List Stretch) → slice_get ss (length ss - 1) ≡ Some s → last_stretch b ss ≡ s
last_stretch-some b s [] h = cc
last_stretch-some b s (x ∷ []) h = cc
last_stretch-some b s (x ∷ y ∷ ss) h =
    let n : length (x ∷ y ∷ ss) - 1 ≡ suc (length (y ∷ ss) - 1) = omega arith in
    last_stretch-some x s (y ∷ ss) (ap (slice_get (x ∷ y ∷ ss)) (sym n) ∙ h)

pub last_stretch-All : (P : Stretch → Type 0) (b : Stretch) (ss : List Stretch) → P b → All P ss → P (last_stretch b ss)
last_stretch-All P b [] here h = here
last_stretch-All P b (s ∷ ss) here h = last_stretch-All P s ss (All-head P s ss h) (All-tail P s ss h)

either : (P : Stretch → Type 0) (a b : Stretch) (t : Bool) → P a → P b → P (cond t a b)
either P a b true x y = x
either P a b false x y = y

pub begun_by-All : (P : Stretch → Type 0) (b : Stretch) (ss : List Stretch) (k : ℕ) → P b → All P ss → P (begun_by b ss k)
begun_by-All P b [] k here h = here
begun_by-All P b (s ∷ ss) k here h =
    begun_by-All P (cond (leb s.from k) s b) ss k (either P s b (leb s.from k) (All-head P s ss h) here) (All-tail P s ss h)

pub begun_by-append : (b : Stretch) (xs ys : List Stretch) (k : ℕ) → begun_by b (xs ++ ys) k ≡ begun_by (begun_by b xs k) ys k
begun_by-append b [] ys k = refl
begun_by-append b (x ∷ xs) ys k = begun_by-append (cond (leb x.from k) x b) xs ys k

pub begun_by-all : (b : Stretch) (ss : List Stretch) (k : ℕ) → All (λ s. s.from ≤ k) ss → begun_by b ss k ≡ last_stretch b ss
begun_by-all b [] k h = refl
begun_by-all b (s ∷ ss) k h =
    ap (λ t. begun_by (cond t s b) ss k) (le-leb s.from k (All-head (λ s. s.from ≤ k) s ss h))
    ∙ begun_by-all s ss k (All-tail (λ s. s.from ≤ k) s ss h)

pub begun_by-none : (b : Stretch) (ss : List Stretch) (k : ℕ) → All (λ s. k < s.from) ss → begun_by b ss k ≡ b
begun_by-none b [] k h = refl
begun_by-none b (s ∷ ss) k h =
    ap (λ t. begun_by (cond t s b) ss k) (lt-leb s.from k (All-head (λ s. k < s.from) s ss h))
    ∙ begun_by-none b ss k (All-tail (λ s. k < s.from) s ss h)

pub stretch_at-begun : {ss : List Stretch} {n k : ℕ} → AreBegun ss n k → stretch_at ss k ≡ last_stretch no_stretch (take n ss)
stretch_at-begun {ss} {n} {k} h =
    ap (λ xs. stretch_at xs k) (sym (take-append-drop n ss)) ∙ begun_by-append no_stretch (take n ss) (drop n ss) k
    ∙ begun_by-none (begun_by no_stretch (take n ss) k) (drop n ss) k h.later ∙ begun_by-all no_stretch (take n ss) k h.begun

-- from where they have begun on
pub stretch_at-after : {ss : List Stretch} {n k : ℕ} (i : ℕ) → AreBegun ss n k → k ≤ i → stretch_at ss i ≡ begun_by (last_stretch no_stretch (take n ss)) (drop n ss) i
stretch_at-after {ss} {n} {k} i h le =
    ap (λ xs. stretch_at xs i) (sym (take-append-drop n ss)) ∙ begun_by-append no_stretch (take n ss) (drop n ss) i
    ∙ ap (λ s. begun_by s (drop n ss) i) (begun_by-all no_stretch (take n ss) i (All-weaker (λ s. s.from ≤ k) (λ s. s.from ≤ i) (λ s le'. omega arith) (take n ss) h.begun))

-- the last of so many
pub last_of_front : (b : Stretch) (ss : List Stretch) (n : ℕ) (d : Stretch) → n < length ss → last_stretch b (take (n + 1) ss) ≡ get_or ss n d
last_of_front b [] n d lt = absurd (omega arith)
last_of_front b (s ∷ ss) zero d lt = refl
last_of_front b (s ∷ ss) (suc n) d lt =
    let e : suc n + 1 ≡ suc (n + 1) = omega arith in
    ap (λ i. last_stretch b (take i (s ∷ ss))) e ∙ last_of_front s ss n d (omega arith)

-- one more stretch
pub stretch_at-before : (ss : List Stretch) (s : Stretch) (k : ℕ) → k < s.from → stretch_at (ss ++ s ∷ []) k ≡ stretch_at ss k
stretch_at-before ss s k lt =
    begun_by-append no_stretch ss (s ∷ []) k ∙ ap (λ t. cond t s (stretch_at ss k)) (lt-leb s.from k lt)

pub stretch_at-last : (ss : List Stretch) (s : Stretch) (k : ℕ) → s.from ≤ k → stretch_at (ss ++ s ∷ []) k ≡ s
stretch_at-last ss s k le =
    begun_by-append no_stretch ss (s ∷ []) k ∙ ap (λ t. cond t s (stretch_at ss k)) (le-leb s.from k le)

-- a later stretch doesn't begin before
not_before : (ss : List Stretch) (i j : ℕ) (d : Stretch) → AreRising ss → i ≤ j → j < length ss → (i < j) ⊎ (j ≤ i) → (get_or ss i d).from ≤ (get_or ss j d).from
not_before ss i j d h le within (inl lt) = omega (arith, h i j d lt within)
not_before ss i j d h le within (inr ge) =
    let same : i ≡ j = omega arith in
    omega (arith, ap (λ n. (get_or ss n d).from) same)

-- what halving asks
pub rising_partitioned : (ss : List Stretch) (k : ℕ) → AreRising ss → IsPartitionedBy (λ s. leb s.from k) ss
rising_partitioned ss k h = IsPartitionedBy-leb (λ s. s.from) ss k (λ i j d le within. not_before ss i j d h le within (cases_lt i j))

pub before_partitioned : (ss : List Stretch) (k : ℕ) → AreRising ss → IsPartitionedBy (λ s. ltb s.from k) ss
before_partitioned ss k h = IsPartitionedBy-ltb (λ s. s.from) ss k (λ i j d le within. not_before ss i j d h le within (cases_lt i j))

-- before the next boundary, where a stretch begins
pub before_more : {ss : List Stretch} {n k : ℕ} (d : Stretch) → AreRising ss → AreBefore ss n k → n < length ss → (get_or ss n d).from ≡ k → AreBefore ss (n + 1) (k + 1)
before_more {ss} {n} {k} d rising h lt is = record {
  within = omega arith;
  before = All-more (λ s. s.from < k + 1) ss n d lt (All-weaker (λ s. s.from < k) (λ s. s.from < k + 1) (λ s lt. omega arith) (take n ss) h.before) (omega arith);
  behind = λ j d' within.
      let at = get_or-drop (n + 1) ss j d' in
      let same = get_or_default ss n d d' lt in
      let above = rising n (n + 1 + j) d' (omega arith) (omega (arith, length-drop (n + 1) ss)) in
      omega (arith, ap (λ s. s.from) at, ap (λ s. s.from) same);
}

-- before the next boundary, where none begins
pub before_same : {ss : List Stretch} {n k : ℕ} → AreRising ss → AreBefore ss n k → ((d : Stretch) → n < length ss → (get_or ss n d).from ≢ k) → AreBefore ss n (k + 1)
before_same {ss} {n} {k} rising h none = record {
  within = h.within;
  before = All-weaker (λ s. s.from < k) (λ s. s.from < k + 1) (λ s lt. omega arith) (take n ss) h.before;
  behind = λ j d within.
      let long = length-drop n ss in
      let front : n + 0 ≡ n = omega arith in
      let first = get_or-drop n ss 0 d ∙ ap (λ i. get_or ss i d) front in
      let at = get_or-drop n ss j d in
      let behind = h.behind 0 d (omega arith) in
      let above = not_before ss n (n + j) d rising (omega arith) (omega arith) (cases_lt n (n + j)) in
      omega (arith, ap (λ s. s.from) at, ap (λ s. s.from) first, none d (omega arith));
}

pub begun_from_before : {ss : List Stretch} {n k : ℕ} → AreBefore ss n (k + 1) → AreBegun ss n k
begun_from_before {ss} {n} {k} h = record {
  within = h.within;
  begun = All-weaker (λ s. s.from < k + 1) (λ s. s.from ≤ k) (λ s lt. omega arith) (take n ss) h.before;
  later = All-weaker (λ s. k + 1 ≤ s.from) (λ s. k < s.from) (λ s le. omega arith) (drop n ss) h.behind;
}

-- those that begin before a boundary are among those that begin by a later one
among : {ss : List Stretch} {n m k i : ℕ} → AreBefore ss n k → AreBegun ss m i → k ≤ i → (m < n) ⊎ (n ≤ m) → n ≤ m
among {ss} {n} {m} {k} {i} b g le (inr ge) = ge
among {ss} {n} {m} {k} {i} b g le (inl lt) =
    let front : m + 0 ≡ m = omega arith in
    let here = b.before m no_stretch (omega (arith, length-take-le n ss b.within)) in
    let there = g.later 0 no_stretch (omega (arith, length-drop m ss, b.within)) in
    absurd (omega (arith, ap (λ s. s.from) (get_or-take n ss m no_stretch lt), ap (λ s. s.from) (get_or-drop m ss 0 no_stretch ∙ ap (λ j. get_or ss j no_stretch) front)))

pub before_begun : {ss : List Stretch} {n m k i : ℕ} → AreBefore ss n k → AreBegun ss m i → k ≤ i → n ≤ m
before_begun {ss} {n} {m} {k} {i} b g le = among b g le (cases_lt m n)

-- a stretch is that of the boundary with which it begins
pub stretch_at-from : (ss : List Stretch) (j : ℕ) (d : Stretch) → AreRising ss → j < length ss → stretch_at ss (get_or ss j d).from ≡ get_or ss j d
stretch_at-from ss j d rising lt =
    let begun : AreBegun ss (j + 1) (get_or ss j d).from = record {
      within = omega arith;
      begun = λ i d' le.
          let at = get_or-take (j + 1) ss i d' (omega (arith, length-take-le (j + 1) ss (omega arith))) in
          let same = get_or_default ss j d d' lt in
          let before = not_before ss i j d' rising (omega (arith, length-take-le (j + 1) ss (omega arith))) lt (cases_lt i j) in
          omega (arith, ap (λ s. s.from) at, ap (λ s. s.from) same);
      later = λ i d' le.
          let at = get_or-drop (j + 1) ss i d' in
          let same = get_or_default ss j d d' lt in
          let above = rising j (j + 1 + i) d' (omega arith) (omega (arith, length-drop (j + 1) ss)) in
          omega (arith, ap (λ s. s.from) at, ap (λ s. s.from) same);
    } in
    stretch_at-begun begun ∙ last_of_front no_stretch ss j d lt

-- ---- the greatest number of entries

pub longest-above : (ss : List Stretch) → All (λ s. s.end - s.first ≤ longest ss) ss
longest-above [] = All-nil (λ s. s.end - s.first ≤ 0)
longest-above (s ∷ ss) =
    let n = max (s.end - s.first) (longest ss) in
    All-cons (λ t. t.end - t.first ≤ n) s ss (omega arith)
    (All-weaker (λ t. t.end - t.first ≤ longest ss) (λ t. t.end - t.first ≤ n) (λ t le. omega arith) ss (longest-above ss))

pub longest-below : (ss : List Stretch) (n : ℕ) → All (λ s. s.end - s.first ≤ n) ss → longest ss ≤ n
longest-below [] n h = omega arith
longest-below (s ∷ ss) n h =
    omega (arith, All-head (λ s. s.end - s.first ≤ n) s ss h, longest-below ss n (All-tail (λ s. s.end - s.first ≤ n) s ss h))

pub longest-last : (ss : List Stretch) (s : Stretch) → longest (ss ++ s ∷ []) ≡ max (longest ss) (s.end - s.first)
longest-last [] s = omega arith
longest-last (x ∷ ss) s = omega (arith, longest-last ss s)

-- ---- parts of what rises

pub rising-take : (ss : List Stretch) (n : ℕ) → AreRising ss → AreRising (take n ss)
rising-take ss n h i j d lt within =
    let long = length-take n ss in
    let a = get_or-take n ss i d (omega arith) in
    let b = get_or-take n ss j d (omega arith) in
    omega (arith, ap (λ s. s.from) a, ap (λ s. s.from) b, h i j d lt (omega arith))

pub rising-drop : (ss : List Stretch) (n : ℕ) → AreRising ss → AreRising (drop n ss)
rising-drop ss n h i j d lt within =
    let long = length-drop n ss in
    let a = get_or-drop n ss i d in
    let b = get_or-drop n ss j d in
    omega (arith, ap (λ s. s.from) a, ap (λ s. s.from) b, h (n + i) (n + j) d (omega arith) (omega arith))

-- ---- a loop that moves each

pub unmoved : (p q : ℕ) (ss : List Stretch) → p ≡ q → ss ≡ map (moved_stretch p q) ss
unmoved p q [] e = refl
unmoved p q (s ∷ ss) e =
    let here : s.from ≡ moved_place p q s.from = omega arith in
    ap₂ (λ n ts. record { from = n; first = s.first; end = s.end } ∷ ts) here (unmoved p q ss e)

-- the next one is still what it was
pub not_yet : (f : Stretch → Stretch) (ss now : List Stretch) (i : ℕ) → now ≡ map f (take i ss) ++ drop i ss → i < length ss → get_or now i no_stretch ≡ get_or ss i no_stretch
not_yet f ss now i e lt =
    let front = map f (take i ss) in
    let here : length front ≡ i = omega (arith, length-map (take i ss) f, length-take-le i ss (omega arith)) in
    ap (λ xs. get_or xs i no_stretch) (e ∙ ap (λ xs. front ++ xs) (drop_more ss i no_stretch lt)) ∙ get_or_at front (get_or ss i no_stretch) (drop (i + 1) ss) no_stretch i here
