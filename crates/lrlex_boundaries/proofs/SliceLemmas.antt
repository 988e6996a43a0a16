-- Boundaries in place of others: those before them stay, and those behind them are moved.
use Rattle.std.proofs.Common.{◌≡◌, ℕ, zero, suc, ◌+◌, ◌-◌, ◌^◌, ◌<◌, ◌≤◌, Bool, true, false, leb, cond, List, [], ◌∷◌, ◌++◌, All, length, map, take, drop, get_or, refl, sym, ap, ap₂, subst, ◌∙◌, arith, inl, inr, ◌⊎◌, length-append, length-take-le, length-drop, take-append-drop}
use Rattle.std.proofs.lemmas.Bool.{cases_lt, le-leb, lt-leb}
use Rattle.std.proofs.lemmas.List.{append-nil, append_assoc, drop-drop, drop_all, drop_at, take_at, take_rest, get_or-append-add, get_or-drop, get_or-map, length-map}
use Rattle.std.proofs.lemmas.List.Elements.{All-head, All-tail, All-cons, All-append, All-map, All-take, All-drop, All-weaker}
use Rattle.std.proofs.lemmas.List.Kept.{AllPairs-cons}
use Rattle.std.proofs.Math.Seq.{drop-append-add, take-append-add}
use Rattle.std.specs.List.{AllPairs}
use borrow.Rule.Slice.PartMut.{put_mid}
use Rattle.lrlex_boundaries.specs.Boundaries.{Boundary, boundary_at, no_boundary, last_entries}
use Rattle.lrlex_boundaries.specs.Moves.{IsMovableBoundary, moved_boundary}
use Rattle.lrlex_boundaries.specs.Ranges.{no_stretch, last_stretch, begun_by, stretch_at, entries_of, boundaries_from, moved_place, moved_stretch, placed_stretch, IsMovablePlace, IsPlaceable, IsRange, StandFor, AreRising, AreBefore, AreBegun, AreJoined, AreInOrder}
use Rattle.lrlex_boundaries.specs.declared.stretch.Stretch.{Stretch}
use Rattle.lrlex_boundaries.proofs.StretchLemmas.{begun_by-append, begun_by-all, begun_by-none, stretch_at-begun, stretch_at-after, rising-take, rising-drop}
use Rattle.lrlex_boundaries.proofs.ArenaLemmas.{slice_range-append, bounds_agree, bounds_more_entries, in_order_more_entries, length-boundaries_from, place_is, last_range, range_is}

-- ---- parts of a list of boundaries

take_bounds : (entries : List (ℕ × ℕ)) (ss : List Stretch) (k n : ℕ) (ps : List ℕ) → take n (boundaries_from entries ss k ps) ≡ boundaries_from entries ss k (take n ps)
take_bounds entries ss k zero ps = refl
take_bounds entries ss k (suc n) [] = refl
take_bounds entries ss k (suc n) (p ∷ ps) = ap (λ ms. record { place = p; entries = entries_of entries (stretch_at ss k) } ∷ ms) (take_bounds entries ss (k + 1) n ps)

drop_bounds : (entries : List (ℕ × ℕ)) (ss : List Stretch) (k n : ℕ) (ps : List ℕ) (j : ℕ) → j ≡ k + n → drop n (boundaries_from entries ss k ps) ≡ boundaries_from entries ss j (drop n ps)
drop_bounds entries ss k zero ps j e =
    let at : k ≡ j = omega arith in
    ap (λ i. boundaries_from entries ss i ps) at
drop_bounds entries ss k (suc n) [] j e = refl
drop_bounds entries ss k (suc n) (p ∷ ps) j e = drop_bounds entries ss (k + 1) n ps j (omega arith)

append_bounds : (entries : List (ℕ × ℕ)) (ss : List Stretch) (k : ℕ) (ps more : List ℕ) (j : ℕ) → j ≡ k + length ps →
    boundaries_from entries ss k (ps ++ more) ≡ boundaries_from entries ss k ps ++ boundaries_from entries ss j more
append_bounds entries ss k [] more j e =
    let at : k ≡ j = omega arith in
    ap (λ i. boundaries_from entries ss i more) at
append_bounds entries ss k (p ∷ ps) more j e =
    ap (λ ms. record { place = p; entries = entries_of entries (stretch_at ss k) } ∷ ms) (append_bounds entries ss (k + 1) ps more j (omega arith))

-- the stacks agree, from boundaries of their own on
bounds_agree_from : (entries more : List (ℕ × ℕ)) (ss now : List Stretch) (k j : ℕ) (ps : List ℕ) →
    ((i x y : ℕ) → i < length ps → x ≡ j + i → y ≡ k + i → entries_of more (stretch_at now x) ≡ entries_of entries (stretch_at ss y)) →
    boundaries_from more now j ps ≡ boundaries_from entries ss k ps
bounds_agree_from entries more ss now k j [] h = refl
bounds_agree_from entries more ss now k j (p ∷ ps) h =
    ap₂ (λ r ms. record { place = p; entries = r } ∷ ms) (h 0 j k (omega arith) (omega arith) (omega arith))
    (bounds_agree_from entries more ss now (k + 1) (j + 1) ps (λ i x y lt ex ey. h (i + 1) x y (omega arith) (omega arith) (omega arith)))

moved_bounds : (entries : List (ℕ × ℕ)) (ss : List Stretch) (k p q : ℕ) (ps : List ℕ) → boundaries_from entries ss k (map (moved_place p q) ps) ≡ map (moved_boundary p q) (boundaries_from entries ss k ps)
moved_bounds entries ss k p q [] = refl
moved_bounds entries ss k p q (x ∷ ps) = ap (λ ms. record { place = moved_place p q x; entries = entries_of entries (stretch_at ss k) } ∷ ms) (moved_bounds entries ss (k + 1) p q ps)

movable_at : (old : List Boundary) (i next p q : ℕ) → All (IsMovableBoundary p q) (drop (i + 1) old) → i + 1 ≤ next → next < length old → IsMovableBoundary p q (boundary_at old next)
movable_at old i next p q h le within =
    let k : ℕ = next - (i + 1) in
    let at : (i + 1) + k ≡ next = omega arith in
    subst (IsMovableBoundary p q) (get_or-drop (i + 1) old k no_boundary ∙ ap (boundary_at old) at) (h k no_boundary (omega (arith, length-drop (i + 1) old)))

-- ---- stretches that stand elsewhere, with their stacks

-- the stretch has its stack there, and begins by the one boundary where it begins by the other
abbrev StandsAt : (entries more : List (ℕ × ℕ)) (f : Stretch → Stretch) (x y : ℕ) → Stretch → Type 0
StandsAt entries more f x y s = (entries_of more (f s) ≡ entries_of entries s) × (leb (f s).from x ≡ leb s.from y)

either_agrees : (entries more : List (ℕ × ℕ)) (t a s b : Stretch) (test : Bool) → entries_of more t ≡ entries_of entries s → entries_of more a ≡ entries_of entries b →
    entries_of more (cond test t a) ≡ entries_of entries (cond test s b)
either_agrees entries more t a s b true here before = here
either_agrees entries more t a s b false here before = before

-- behind stretches with the same stack
stand_behind : (entries more : List (ℕ × ℕ)) (f : Stretch → Stretch) (a b : Stretch) (ss : List Stretch) (x y : ℕ) → entries_of more a ≡ entries_of entries b → All (StandsAt entries more f x y) ss →
    entries_of more (begun_by a (map f ss) x) ≡ entries_of entries (begun_by b ss y)
stand_behind entries more f a b [] x y same h = same
stand_behind entries more f a b (s ∷ ss) x y same h =
    let here = All-head (StandsAt entries more f x y) s ss h in
    ap (λ test. entries_of more (begun_by (cond test (f s) a) (map f ss) x)) here.1
    ∙ stand_behind entries more f (cond (leb s.from y) (f s) a) (cond (leb s.from y) s b) ss x y
    (either_agrees entries more (f s) a s b (leb s.from y) here.0 same) (All-tail (StandsAt entries more f x y) s ss h)

same_test : (n x m y : ℕ) → (y < m → x < n) → (m ≤ y → n ≤ x) → (y < m) ⊎ (m ≤ y) → leb n x ≡ leb m y
same_test n x m y below above (inl lt) = lt-leb n x (below lt) ∙ sym (lt-leb m y lt)
same_test n x m y below above (inr ge) = le-leb n x (above ge) ∙ sym (le-leb m y ge)

rising-map : (f : Stretch → Stretch) (ss : List Stretch) → AllPairs (λ s t. (f s).from < (f t).from) ss → AreRising (map f ss)
rising-map f ss h a b d lt within =
    let long = length-map ss f in
    let x = get_or-map f ss a no_stretch d (omega arith) in
    let y = get_or-map f ss b no_stretch d (omega arith) in
    omega (arith, ap (λ s. s.from) x, ap (λ s. s.from) y, h a b no_stretch lt (omega arith))

rising-append : (ss later : List Stretch) (n : ℕ) → AreRising ss → AreRising later → All (λ s. s.from < n) ss → All (λ s. n ≤ s.from) later → AreRising (ss ++ later)
rising-append [] later n h h' below above = h'
rising-append (s ∷ ss) later n h h' below above =
    let here = All-head (λ s. s.from < n) s ss below in
    AllPairs-cons (λ s t. s.from < t.from) s (ss ++ later)
    (All-append (λ t. s.from < t.from) ss later (λ k d lt. h 0 (suc k) d (omega arith) (omega arith)) (All-weaker (λ t. n ≤ t.from) (λ t. s.from < t.from) (λ t le. omega arith) later above))
    (rising-append ss later n (λ i j d lt within. h (suc i) (suc j) d (omega arith) (omega arith)) h' (All-tail (λ s. s.from < n) s ss below) above)

-- ---- stretches of other boundaries

-- stretches with their stacks behind the entries
abbrev pub ArePlaced : (entries more : List (ℕ × ℕ)) (k n : ℕ) → List Stretch → Type 0
ArePlaced entries more k n ss = All (λ s. IsRange (length more) (placed_stretch k n s) × (entries_of more (placed_stretch k n s) ≡ entries_of entries s)) ss

pub placed_behind : (entries front : List (ℕ × ℕ)) {more : List (ℕ × ℕ)} (k n : ℕ) (s : Stretch) → more ≡ front ++ entries → n ≡ length front → IsRange (length entries) s →
    IsRange (length more) (placed_stretch k n s) × (entries_of more (placed_stretch k n s) ≡ entries_of entries s)
placed_behind entries front {more} k n s e at r =
    let long : length more ≡ n + length entries = omega (arith, ap length e, length-append front entries) in
    let first : s.first + n ≡ length front + s.first = omega arith in
    let count : (s.end + n) - (s.first + n) ≡ s.end - s.first = omega arith in (
      record { ordered = omega (arith, r.ordered); within = omega (arith, r.within) },
      ap₂ (λ i xs. take ((s.end + n) - (s.first + n)) (drop i xs)) first e ∙ ap (take ((s.end + n) - (s.first + n))) (drop-append-add front entries s.first)
          ∙ ap (λ i. take i (drop s.first entries)) count,
    )

pub stand_placed : {entries more : List (ℕ × ℕ)} {before : Stretch} {ss : List Stretch} {b : ℕ} (k n : ℕ) → AreRising ss → AreBegun ss b 0 → ArePlaced entries more k n (drop b ss) →
    entries_of more before ≡ entries_of entries (stretch_at ss 0) → StandFor entries more before k ss (map (placed_stretch k n) (drop b ss))
stand_placed {entries} {more} {before} {ss} {b} k n rising begun placed same = record {
  ranges =
      All-map (IsRange (length more)) (placed_stretch k n) (drop b ss) (λ i d lt. (placed i d lt).0);
  rising = rising-map (placed_stretch k n) (drop b ss) (λ i j d lt within. omega (arith, rising-drop ss b rising i j d lt within));
  behind = All-map (λ s. k ≤ s.from) (placed_stretch k n) (drop b ss) (λ i d lt. omega arith);
  begun = λ m some h. All-map (λ s. s.from < k + m) (placed_stretch k n) (drop b ss) (λ i d lt. omega (arith, All-drop (λ s. s.from < m) b ss h i d lt));
  stacks = λ i j e.
      stand_behind entries more (placed_stretch k n) before (last_stretch no_stretch (take b ss)) (drop b ss) j i (same ∙ ap (entries_of entries) (stretch_at-begun begun))
      (λ m d lt. let s = get_or (drop b ss) m d in ((placed m d lt).1, same_test (s.from + k) j s.from i (λ lt'. omega arith) (λ ge. omega arith) (cases_lt i s.from)))
      ∙ ap (entries_of entries) (sym (stretch_at-after i begun (omega arith)));
}

-- with a stretch for the first boundary
pub stand_opened : {entries more : List (ℕ × ℕ)} {before : Stretch} {ss : List Stretch} {b : ℕ} (k n : ℕ) (opening : Stretch) → AreRising ss → AreBegun ss b 0 → ArePlaced entries more k n (drop b ss) →
    opening.from ≡ k → IsRange (length more) opening → entries_of more opening ≡ entries_of entries (stretch_at ss 0) →
    StandFor entries more before k ss (opening ∷ map (placed_stretch k n) (drop b ss))
stand_opened {entries} {more} {before} {ss} {b} k n opening rising begun placed from range same =
    let later = map (placed_stretch k n) (drop b ss) in
    let h : StandFor entries more opening k ss later = stand_placed k n rising begun placed same in
    record {
      ranges = All-cons (IsRange (length more)) opening later range h.ranges;
      rising =
          AllPairs-cons (λ s t. s.from < t.from) opening later
          (All-map (λ t. opening.from < t.from) (placed_stretch k n) (drop b ss) (λ i d lt. omega (arith, begun.later i d lt))) h.rising;
      behind = All-cons (λ s. k ≤ s.from) opening later (omega arith) h.behind;
      begun = λ m some below. All-cons (λ s. s.from < k + m) opening later (omega arith) (h.begun m some below);
      stacks = λ i j e. ap (λ test. entries_of more (begun_by (cond test opening before) later j)) (le-leb opening.from j (omega arith)) ∙ h.stacks i j e;
    }

-- what stands in the list of stretches then
pub joined : {entries more : List (ℕ × ℕ)} {ss old new later : List Stretch} {b mine passed k end : ℕ} (n : ℕ) → new ≡ take mine old ++ (map (placed_stretch k n) later ++ drop passed old) → later ≡ drop b ss → end ≡ mine + length later →
    AreRising ss → AreBegun ss b 0 → ArePlaced entries more k n (drop b ss) → entries_of more (last_stretch no_stretch (take mine old)) ≡ entries_of entries (stretch_at ss 0) →
    AreJoined entries more mine passed k ss old new end
joined {entries} {more} {ss} {old} {new} {later} {b} {mine} {passed} {k} {end} n is e end_is rising begun placed same = record {
  own = map (placed_stretch k n) (drop b ss);
  is = is ∙ ap (λ xs. take mine old ++ (map (placed_stretch k n) xs ++ drop passed old)) e;
  end_is = omega (arith, ap length e, length-map (drop b ss) (placed_stretch k n));
  stand = stand_placed k n rising begun placed same;
}

pub joined_opened : {entries more : List (ℕ × ℕ)} {ss old opened new later : List Stretch} {b mine passed k end : ℕ} (n : ℕ) (opening : Stretch) → mine ≤ passed → passed ≤ length old → opened ≡ take mine old ++ opening ∷ drop mine old →
    new ≡ take (mine + 1) opened ++ (map (placed_stretch k n) later ++ drop (passed + 1) opened) → later ≡ drop b ss → end ≡ mine + 1 + length later →
    AreRising ss → AreBegun ss b 0 → ArePlaced entries more k n (drop b ss) → opening.from ≡ k → IsRange (length more) opening → entries_of more opening ≡ entries_of entries (stretch_at ss 0) →
    AreJoined entries more mine passed k ss old new end
joined_opened {entries} {more} {ss} {old} {opened} {new} {later} {b} {mine} {passed} {k} {end} n opening le within o is e end_is rising begun placed from range same =
    let front = take mine old in
    let rest = opening ∷ drop mine old in
    let long : length front ≡ mine = length-take-le mine old (omega arith) in
    let first : mine + 1 ≡ length front + 1 = omega arith in
    let last : passed + 1 ≡ length front + suc (passed - mine) = omega arith in
    let there : mine + (passed - mine) ≡ passed = omega arith in
    let kept : take (mine + 1) opened ≡ front ++ opening ∷ [] = ap₂ take first o ∙ take-append-add front rest 1 in
    let later_is : drop (passed + 1) opened ≡ drop passed old =
    ap₂ drop last o ∙ drop-append-add front rest (suc (passed - mine)) ∙ drop-drop (passed - mine) mine old ∙ ap (λ i. drop i old) there in
    record {
      own = opening ∷ map (placed_stretch k n) (drop b ss);
      is =
          is ∙ ap₂ (λ xs ys. xs ++ (map (placed_stretch k n) later ++ ys)) kept later_is ∙ append_assoc front (opening ∷ []) (map (placed_stretch k n) later ++ drop passed old)
          ∙ ap (λ xs. front ++ opening ∷ (map (placed_stretch k n) xs ++ drop passed old)) e;
      end_is = omega (arith, ap length e, length-map (drop b ss) (placed_stretch k n));
      stand = stand_opened k n opening rising begun placed from range same;
    }

-- ---- the front with other boundaries behind it

stretch_at-front : {ss : List Stretch} {n k : ℕ} (i : ℕ) → AreBefore ss n k → i < k → stretch_at (take n ss) i ≡ stretch_at ss i
stretch_at-front {ss} {n} {k} i h lt =
    sym (ap (λ xs. stretch_at xs i) (sym (take-append-drop n ss)) ∙ begun_by-append no_stretch (take n ss) (drop n ss) i
    ∙ begun_by-none (begun_by no_stretch (take n ss) i) (drop n ss) i (All-weaker (λ s. k ≤ s.from) (λ s. i < s.from) (λ s le. omega arith) (drop n ss) h.behind))

-- boundaries before one, and others with stretches that stand for theirs
pub record Joint (entries more theirs : List (ℕ × ℕ)) (ss others own : List Stretch) (ps places : List ℕ) (n keep : ℕ) : Type 0 where
  pub longer : more ≡ entries ++ drop (length entries) more
  pub kept : AreInOrder entries ss ps
  pub other : AreInOrder theirs others places
  pub before : AreBefore ss n keep
  pub within : keep ≤ length ps
  pub some : 0 < length places
  pub stand : StandFor theirs more (last_stretch no_stretch (take n ss)) keep others own

module _ {entries more theirs : List (ℕ × ℕ)} {ss others own : List Stretch} {ps places : List ℕ} {n keep : ℕ} (j : Joint entries more theirs ss others own ps places n keep) where
  kept_same : (i : ℕ) → i < keep → stretch_at (take n ss ++ own) i ≡ stretch_at ss i
  kept_same i lt =
      begun_by-append no_stretch (take n ss) own i
      ∙ begun_by-none (begun_by no_stretch (take n ss) i) own i (All-weaker (λ s. keep ≤ s.from) (λ s. i < s.from) (λ s le. omega arith) own j.stand.behind)
      ∙ stretch_at-front i j.before lt

  other_same : (x y : ℕ) → x ≡ keep + y → entries_of more (stretch_at (take n ss ++ own) x) ≡ entries_of theirs (stretch_at others y)
  other_same x y e =
      ap (entries_of more) (begun_by-append no_stretch (take n ss) own x ∙ ap (λ s. begun_by s own x)
      (begun_by-all no_stretch (take n ss) x (All-weaker (λ s. s.from < keep) (λ s. s.from ≤ x) (λ s lt. omega arith) (take n ss) j.before.before)))
      ∙ j.stand.stacks y x e

  joint_length : length (take keep ps) ≡ keep
  joint_length = length-take-le keep ps j.within

  pub joint_bounds : boundaries_from more (take n ss ++ own) 0 (take keep ps ++ places) ≡ take keep (boundaries_from entries ss 0 ps) ++ boundaries_from theirs others 0 places
  joint_bounds =
      append_bounds more (take n ss ++ own) 0 (take keep ps) places keep (omega (arith, joint_length))
      ∙ ap₂ ◌++◌ (bounds_agree more more ss (take n ss ++ own) 0 (take keep ps) (λ i lt. ap (entries_of more) (kept_same i (omega (arith, joint_length))))
      ∙ sym (take_bounds more ss 0 keep ps) ∙ ap (take keep) (bounds_more_entries j.longer j.kept))
      (bounds_agree_from theirs more others (take n ss ++ own) 0 keep places (λ i x y lt ex ey. other_same x y (omega arith)))

  pub joint_in_order : AreInOrder more (take n ss ++ own) (take keep ps ++ places)
  joint_in_order =
      let long : length (take keep ps ++ places) ≡ keep + length places = omega (arith, joint_length, length-append (take keep ps) places) in
      record {
        ranges = All-append (IsRange (length more)) (take n ss) own (All-take (IsRange (length more)) n ss (in_order_more_entries j.longer j.kept).ranges) j.stand.ranges;
        begun =
            All-append (λ s. s.from < length (take keep ps ++ places)) (take n ss) own
            (All-weaker (λ s. s.from < keep) (λ s. s.from < length (take keep ps ++ places)) (λ s lt. omega arith) (take n ss) j.before.before)
            (All-weaker (λ s. s.from < keep + length places) (λ s. s.from < length (take keep ps ++ places)) (λ s lt. omega arith) own (j.stand.begun (length places) j.some j.other.begun));
        rising = rising-append (take n ss) own keep (rising-take ss n j.kept.rising) j.stand.rising j.before.before j.stand.behind;
      }

-- boundaries in place of all from one on
pub replaced : {entries more theirs : List (ℕ × ℕ)} {ss others new : List Stretch} {ps places now : List ℕ} {mine passed keep end last : ℕ} → more ≡ entries ++ drop (length entries) more →
    AreInOrder entries ss ps → AreInOrder theirs others places → AreBefore ss mine keep → keep ≤ length ps → 0 < length places →
    AreJoined theirs more mine passed keep others ss new end → passed ≡ length ss → now ≡ take keep ps ++ (places ++ drop last ps) → last ≡ length ps →
    AreInOrder more new now × (boundaries_from more new 0 now ≡ take keep (boundaries_from entries ss 0 ps) ++ boundaries_from theirs others 0 places)
replaced {entries} {more} {theirs} {ss} {others} {new} {ps} {places} {now} {mine} {passed} {keep} {end} {last} longer kept other before within some a all is all' =
    let j : Joint entries more theirs ss others a.own ps places mine keep =
    record { longer = longer; kept = kept; other = other; before = before; within = within; some = some; stand = a.stand } in
    let stretches_are : new ≡ take mine ss ++ a.own = a.is ∙ ap (λ xs. take mine ss ++ (a.own ++ xs)) (drop_all passed ss (omega arith)) ∙ ap (λ xs. take mine ss ++ xs) (append-nil a.own) in
    let places_are : now ≡ take keep ps ++ places = is ∙ ap (λ xs. take keep ps ++ (places ++ xs)) (drop_all last ps (omega arith)) ∙ ap (λ xs. take keep ps ++ xs) (append-nil places) in (
      rw (stretches_are, places_are) (joint_in_order j),
      ap₂ (λ xs ys. boundaries_from more xs 0 ys) stretches_are places_are ∙ joint_bounds j,
    )

pub last_entries-append : (ms more : List Boundary) → 0 < length more → last_entries (ms ++ more) ≡ last_entries more
last_entries-append ms more some =
    let n : length (ms ++ more) - 1 ≡ length ms + (length more - 1) = omega (arith, length-append ms more) in
    ap (λ i. (boundary_at (ms ++ more) i).entries) n ∙ ap (λ (m : Boundary). m.entries) (get_or-append-add ms more (length more - 1) no_boundary)

-- ---- the tail

-- later stretches moved, with the entries at their places, behind a stretch with the same stack
later_agree : (entries more rest : List (ℕ × ℕ)) (a b : Stretch) (later : List Stretch) (i j k x y : ℕ) → more ≡ entries ++ rest →
    entries_of more a ≡ entries_of entries b → All (IsRange (length entries)) later → All (λ s. i ≤ s.from) later → x ≡ j + k → y ≡ i + k →
    entries_of more (begun_by a (map (moved_stretch i j) later) x) ≡ entries_of entries (begun_by b later y)
later_agree entries more rest a b later i j k x y e same ranges from ex ey =
    stand_behind entries more (moved_stretch i j) a b later x y same (λ m d lt. let s = get_or later m d in
    let r = ranges m d lt in
    let le = from m d lt in (
      ap (λ rs. entries_of rs s) e ∙ slice_range-append entries rest s.first s.end r.ordered r.within,
      same_test (moved_place i j s.from) x s.from y (λ lt'. omega arith) (λ ge. omega arith) (cases_lt y s.from),
    ))

-- the places behind others, once they are moved where they stand
pub moved_behind : (f : ℕ → ℕ) (xs front behind ys : List ℕ) (n : ℕ) → xs ≡ front ++ behind → length front ≡ n → ys ≡ map f (take (length xs - n) (drop n xs)) → put_mid n (length xs - n) xs ys ≡ front ++ map f behind
moved_behind f xs front behind ys n e long is =
    let kept : take n xs ≡ front = ap (take n) e ∙ take_at front behind n long in
    let rest : drop n xs ≡ behind = ap (drop n) e ∙ drop_at front behind n long in
    let past : drop (length xs - n) (drop n xs) ≡ [] = drop_all (length xs - n) (drop n xs) (omega (arith, length-drop n xs)) in
    ap₂ ◌++◌ kept (ap₂ ◌++◌ (is ∙ ap (map f) (take_rest xs n ∙ rest)) past ∙ append-nil (map f behind))

-- a part of stretches that can be placed behind the entries
pub placeable : (ss : List Stretch) (m b k n stacks : ℕ) → All (IsRange stacks) ss → All (λ s. s.from + k < 2 ^ 64) ss → stacks + n < 2 ^ 64 → All (IsPlaceable k n) (take m (drop b ss))
placeable ss m b k n stacks ranges fits room =
    All-take (IsPlaceable k n) m (drop b ss)
    (All-drop (IsPlaceable k n) b ss (λ i d lt. let r = ranges i d lt in record { from = fits i d lt; first = omega (arith, r.ordered, r.within); end = omega (arith, r.within) }))

-- places behind the boundary
pub tail_movable : (entries : List (ℕ × ℕ)) (ss : List Stretch) (ps : List ℕ) (os : List Boundary) (index p q : ℕ) → boundaries_from entries ss 0 ps ≡ os →
    All (IsMovableBoundary p q) (drop (index + 1) os) → All (IsMovablePlace p q) (drop (index + 1) ps)
tail_movable entries ss ps os index p q e h k d lt =
    let within : index + 1 + k < length os = omega (arith, length-drop (index + 1) ps, length-boundaries_from entries ss 0 ps, ap length e) in
    let m = movable_at os index (index + 1 + k) p q h (omega arith) within in
    let at = get_or-drop (index + 1) ps k d ∙ place_is entries ss ps os (index + 1 + k) d e within in
    record { from = omega (arith, at, m.place_from); fits = omega (arith, at, m.place_fits) }

-- the list that ends with the old boundary's stack, and the old one, whose entries it has at their places
pub record Meeting (entries more : List (ℕ × ℕ)) (ss old : List Stretch) (ps places : List ℕ) (n index : ℕ) : Type 0 where
  pub rest : List (ℕ × ℕ)
  pub begins : more ≡ entries ++ rest
  pub own : AreInOrder more ss ps
  pub other : AreInOrder entries old places
  pub begun : AreBegun old n index
  pub within : index < length places
  pub same : entries_of more (last_stretch no_stretch ss) ≡ entries_of entries (last_stretch no_stretch (take n old))

pub meeting : {entries more : List (ℕ × ℕ)} (rest : List (ℕ × ℕ)) {ss old : List Stretch} {ps places : List ℕ} {n index : ℕ} {ms os : List Boundary} → more ≡ entries ++ rest →
    AreInOrder more ss ps → boundaries_from more ss 0 ps ≡ ms → AreInOrder entries old places → boundaries_from entries old 0 places ≡ os →
    AreBegun old n index → index < length os → last_entries ms ≡ (boundary_at os index).entries → Meeting entries more ss old ps places n index
meeting {entries} {more} rest {ss} {old} {ps} {places} {n} {index} {ms} {os} begins own is other is' begun lt same = record {
  rest = rest;
  begins = begins;
  own = own;
  other = other;
  begun = begun;
  within = omega (arith, length-boundaries_from entries old 0 places, ap length is');
  same =
      (last_range own is refl refl).is ∙ same ∙ sym (range_is index other is' lt refl refl).is ∙ ap (entries_of entries) (stretch_at-begun begun);
}

-- ---- the list with the tail behind it

module _ {entries more : List (ℕ × ℕ)} {ss old : List Stretch} {ps places : List ℕ} {n index : ℕ} (m : Meeting entries more ss old ps places n index) where
  -- the stretches that begin behind the boundary
  from_behind : All (λ s. index + 1 ≤ s.from) (drop n old)
  from_behind = All-weaker (λ s. index < s.from) (λ s. index + 1 ≤ s.from) (λ s lt. omega arith) (drop n old) m.begun.later

  before_end : All (λ s. s.from < length places) (drop n old)
  before_end = All-drop (λ s. s.from < length places) n old m.other.begun

  above : All (λ s. length ps ≤ s.from) (map (moved_stretch (index + 1) (length ps)) (drop n old))
  above =
      All-map (λ s. length ps ≤ s.from) (moved_stretch (index + 1) (length ps)) (drop n old)
      (All-weaker (λ s. index + 1 ≤ s.from) (λ s. length ps ≤ moved_place (index + 1) (length ps) s.from) (λ s le. omega arith) (drop n old) from_behind)

  front_same : (i : ℕ) → i < length ps → stretch_at (ss ++ map (moved_stretch (index + 1) (length ps)) (drop n old)) i ≡ stretch_at ss i
  front_same i lt =
      let moved = map (moved_stretch (index + 1) (length ps)) (drop n old) in
      begun_by-append no_stretch ss moved i
      ∙ begun_by-none (begun_by no_stretch ss i) moved i (All-weaker (λ s. length ps ≤ s.from) (λ s. i < s.from) (λ s le. omega arith) moved above)

  tail_same : (i x y : ℕ) → x ≡ length ps + i → y ≡ index + 1 + i → entries_of more (stretch_at (ss ++ map (moved_stretch (index + 1) (length ps)) (drop n old)) x) ≡ entries_of entries (stretch_at old y)
  tail_same i x y ex ey =
      let moved = map (moved_stretch (index + 1) (length ps)) (drop n old) in
      let here : begun_by no_stretch ss x ≡ last_stretch no_stretch ss = begun_by-all no_stretch ss x (All-weaker (λ s. s.from < length ps) (λ s. s.from ≤ x) (λ s lt. omega arith) ss m.own.begun) in
      ap (entries_of more) (begun_by-append no_stretch ss moved x ∙ ap (λ s. begun_by s moved x) here)
      ∙ later_agree entries more m.rest (last_stretch no_stretch ss) (last_stretch no_stretch (take n old)) (drop n old) (index + 1) (length ps) i x y m.begins m.same
      (All-drop (IsRange (length entries)) n old m.other.ranges) from_behind ex ey
      ∙ ap (entries_of entries) (sym (stretch_at-after y m.begun (omega arith)))

  pub later_movable : length ps + (length places - (index + 1)) < 2 ^ 64 → All (λ s. IsMovablePlace (index + 1) (length ps) s.from) (drop n old)
  later_movable fits k d lt =
      let a = from_behind k d lt in
      let b = before_end k d lt in
      record { from = a; fits = omega arith }

  pub tail_bounds : (p q : ℕ) → boundaries_from more (ss ++ map (moved_stretch (index + 1) (length ps)) (drop n old)) 0 (ps ++ map (moved_place p q) (drop (index + 1) places))
      ≡ boundaries_from more ss 0 ps ++ map (moved_boundary p q) (drop (index + 1) (boundaries_from entries old 0 places))
  tail_bounds p q =
      let both = ss ++ map (moved_stretch (index + 1) (length ps)) (drop n old) in
      append_bounds more both 0 ps (map (moved_place p q) (drop (index + 1) places)) (length ps) (omega arith)
      ∙ ap₂ ◌++◌ (bounds_agree more more ss both 0 ps (λ i lt. ap (entries_of more) (front_same i (omega arith))))
      (moved_bounds more both (length ps) p q (drop (index + 1) places)
      ∙ ap (map (moved_boundary p q)) (bounds_agree_from entries more old both (index + 1) (length ps) (drop (index + 1) places) (λ i x y lt ex ey. tail_same i x y ex ey)
      ∙ sym (drop_bounds entries old 0 (index + 1) places (index + 1) (omega arith))))

  pub tail_in_order : (p q : ℕ) → AreInOrder more (ss ++ map (moved_stretch (index + 1) (length ps)) (drop n old)) (ps ++ map (moved_place p q) (drop (index + 1) places))
  tail_in_order p q =
      let moved = map (moved_stretch (index + 1) (length ps)) (drop n old) in
      let tail = map (moved_place p q) (drop (index + 1) places) in
      let long : length (ps ++ tail) ≡ length ps + (length places - (index + 1)) = omega (arith, length-append ps tail, length-map (drop (index + 1) places) (moved_place p q), length-drop (index + 1) places) in
      let room : length entries ≤ length more = omega (arith, ap length m.begins, length-append entries m.rest) in
      record {
        ranges =
            All-append (IsRange (length more)) ss moved m.own.ranges
            (All-map (IsRange (length more)) (moved_stretch (index + 1) (length ps)) (drop n old)
            (All-weaker (IsRange (length entries)) (λ s. IsRange (length more) (moved_stretch (index + 1) (length ps) s))
            (λ s r. record { ordered = r.ordered; within = omega (arith, r.within) }) (drop n old) (All-drop (IsRange (length entries)) n old m.other.ranges)));
        begun =
            All-append (λ s. s.from < length (ps ++ tail)) ss moved (All-weaker (λ s. s.from < length ps) (λ s. s.from < length (ps ++ tail)) (λ s lt. omega arith) ss m.own.begun)
            (All-map (λ s. s.from < length (ps ++ tail)) (moved_stretch (index + 1) (length ps)) (drop n old)
            (λ k d lt. let a = from_behind k d lt in
            let b = before_end k d lt in
            omega arith));
        rising = rising-append ss moved (length ps) m.own.rising (rising-map (moved_stretch (index + 1) (length ps)) (drop n old)
            (λ i j d lt within. omega (arith, rising-drop old n m.other.rising i j d lt within, from_behind i d (omega arith)))) m.own.begun above;
      }

-- ---- others in place of some, and the rest moved

-- the stretches up to the end that is told, and those behind it
module _ {entries more : List (ℕ × ℕ)} {mine passed k end : ℕ} {ss old new : List Stretch} (a : AreJoined entries more mine passed k ss old new end) (within : mine ≤ length old) where
  front_length : length (take mine old ++ a.own) ≡ end
  front_length = omega (arith, length-append (take mine old) a.own, length-take-le mine old within, a.end_is)

  parts_are : new ≡ (take mine old ++ a.own) ++ drop passed old
  parts_are = a.is ∙ sym (append_assoc (take mine old) a.own (drop passed old))

  joined_front : take end new ≡ take mine old ++ a.own
  joined_front = ap (take end) parts_are ∙ take_at (take mine old ++ a.own) (drop passed old) end front_length

  joined_behind : drop end new ≡ drop passed old
  joined_behind = ap (drop end) parts_are ∙ drop_at (take mine old ++ a.own) (drop passed old) end front_length

-- boundaries in place of those from one up to another, whose stack the last has
pub record Replacing (entries more theirs : List (ℕ × ℕ)) (ss others new : List Stretch) (ps places : List ℕ) (mine passed keep index end : ℕ) : Type 0 where
  pub longer : more ≡ entries ++ drop (length entries) more
  pub kept : AreInOrder entries ss ps
  pub other : AreInOrder theirs others places
  pub before : AreBefore ss mine keep
  pub begun : AreBegun ss passed index
  pub order : keep ≤ index
  pub within : index < length ps
  pub some : 0 < length places
  pub joined : AreJoined theirs more mine passed keep others ss new end
  pub last : last_entries (boundaries_from theirs others 0 places) ≡ (boundary_at (boundaries_from entries ss 0 ps) index).entries

pub takes_place : {entries more theirs stacks : List (ℕ × ℕ)} {ss others given now now' new : List Stretch} {ps places : List ℕ} {os ms : List Boundary} {mine passed keep index end : ℕ} →
    more ≡ entries ++ drop (length entries) more → AreInOrder entries ss ps → boundaries_from entries ss 0 ps ≡ os → AreInOrder theirs others places → boundaries_from theirs others 0 places ≡ ms →
    now ≡ ss → AreBefore now mine keep → now' ≡ ss → AreBegun now' passed index → keep ≤ index → index < length os → 0 < length ms → last_entries ms ≡ (boundary_at os index).entries →
    given ≡ others → stacks ≡ theirs → AreJoined stacks more mine passed keep given ss new end → Replacing entries more theirs ss others new ps places mine passed keep index end
takes_place {entries} {more} {theirs} {stacks} {ss} {others} {given} {now} {now'} {new} {ps} {places} {os} {ms} {mine} {passed} {keep} {index} {end} longer kept is other is' e before e' begun order within some last eg es joined = record {
  longer = longer;
  kept = kept;
  other = other;
  before = subst (λ xs. AreBefore xs mine keep) e before;
  begun = subst (λ xs. AreBegun xs passed index) e' begun;
  order = order;
  within = omega (arith, length-boundaries_from entries ss 0 ps, ap length is);
  some = omega (arith, length-boundaries_from theirs others 0 places, ap length is');
  joined = subst (λ xs. AreJoined xs more mine passed keep others ss new end) es (subst (λ xs. AreJoined stacks more mine passed keep xs ss new end) eg joined);
  last = ap last_entries is' ∙ last ∙ ap (λ ms. (boundary_at ms index).entries) (sym is);
}

module _ {entries more theirs : List (ℕ × ℕ)} {ss others new : List Stretch} {ps places : List ℕ} {mine passed keep index end : ℕ} (r : Replacing entries more theirs ss others new ps places mine passed keep index end) where
  joint : Joint entries more theirs ss others r.joined.own ps places mine keep
  joint = record { longer = r.longer; kept = r.kept; other = r.other; before = r.before; within = omega (arith, r.order, r.within); some = r.some; stand = r.joined.stand }

  meets : Meeting entries more (take mine ss ++ r.joined.own) ss (take keep ps ++ places) ps passed index
  meets =
      meeting (drop (length entries) more) r.longer (joint_in_order joint) (joint_bounds joint) r.kept refl r.begun (omega (arith, r.within, length-boundaries_from entries ss 0 ps))
      (last_entries-append (take keep (boundaries_from entries ss 0 ps)) (boundaries_from theirs others 0 places) (omega (arith, r.some, length-boundaries_from theirs others 0 places)) ∙ r.last)

  places_length : length (take keep ps ++ places) ≡ keep + length places
  places_length = omega (arith, length-append (take keep ps) places, length-take-le keep ps (omega (arith, r.order, r.within)))

  pub replacing_movable : (j : ℕ) → j ≡ keep + length places → length ps + length places < 2 ^ 64 → All (λ s. IsMovablePlace (index + 1) j s.from) (drop end new)
  replacing_movable j e fits =
      let at : length (take keep ps ++ places) ≡ j = omega (arith, places_length) in
      subst (All (λ s. IsMovablePlace (index + 1) j s.from)) (sym (joined_behind r.joined r.before.within))
      (subst (λ i. All (λ s. IsMovablePlace (index + 1) i s.from) (drop passed ss)) at (later_movable meets (omega (arith, places_length, r.order, r.within))))

  pub replacing : {moved : List Stretch} {now : List ℕ} (j p q : ℕ) → j ≡ keep + length places → moved ≡ take end new ++ map (moved_stretch (index + 1) j) (drop end new) →
      now ≡ take keep ps ++ (places ++ map (moved_place p q) (drop (index + 1) ps)) →
      AreInOrder more moved now × (boundaries_from more moved 0 now ≡ (take keep (boundaries_from entries ss 0 ps) ++ boundaries_from theirs others 0 places)
      ++ map (moved_boundary p q) (drop (index + 1) (boundaries_from entries ss 0 ps)))
  replacing {moved} {now} j p q e is is' =
      let at : j ≡ length (take keep ps ++ places) = omega (arith, places_length) in
      let stretches_are : moved ≡ (take mine ss ++ r.joined.own) ++ map (moved_stretch (index + 1) (length (take keep ps ++ places))) (drop passed ss) =
      is ∙ ap₂ ◌++◌ (joined_front r.joined r.before.within) (ap₂ (λ i xs. map (moved_stretch (index + 1) i) xs) at (joined_behind r.joined r.before.within)) in
      let places_are : now ≡ (take keep ps ++ places) ++ map (moved_place p q) (drop (index + 1) ps) = is' ∙ sym (append_assoc (take keep ps) places (map (moved_place p q) (drop (index + 1) ps))) in (
        rw (stretches_are, places_are) (tail_in_order meets p q),
        ap₂ (λ xs ys. boundaries_from more xs 0 ys) stretches_are places_are ∙ tail_bounds meets p q
            ∙ ap (λ ms. ms ++ map (moved_boundary p q) (drop (index + 1) (boundaries_from entries ss 0 ps))) (joint_bounds joint),
      )
