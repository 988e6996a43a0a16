-- Boundaries whose stacks are ranges of one list of entries: what one more of each changes.
use Rattle.std.proofs.Common.{◌≡◌, ℕ, zero, suc, ◌+◌, ◌-◌, ◌<◌, ◌≤◌, List, [], ◌∷◌, ◌++◌, All, length, take, drop, get_or, refl, sym, ap, ap₂, ◌∙◌, subst, arith, length-append, length-take-le, take-take, take-add, drop-drop, take-append-drop}
use Rattle.std.specs.List.{slice_range}
use Rattle.std.proofs.lemmas.List.{take_all, length-drop, get_or_at, get_or_default, take-append-le, drop-append-le}
use Rattle.std.proofs.lemmas.List.Elements.{All-head, All-push, All-take, All-weaker}
use Rattle.std.proofs.lemmas.List.Quantifiers.{all_pairs_push}
use Rattle.lrlex_boundaries.specs.Boundaries.{Boundary, no_boundary, boundary_at, last_entries, most_entries}
use Rattle.lrlex_boundaries.specs.Ranges.{no_stretch, last_stretch, longest, stretch_at, entries_of, boundaries_from, IsRange, AreRising, AreBegun, AreInOrder}
use Rattle.lrlex_boundaries.specs.Entries.{Stay}
use Rattle.lrlex_boundaries.specs.declared.stretch.Stretch.{Stretch}
use Rattle.lrlex_boundaries.proofs.StretchLemmas.{last_stretch-All, begun_by-All, begun_by-all, stretch_at-begun, stretch_at-before, stretch_at-last, stretch_at-from, last_of_front, longest-above, longest-below}

-- ---- ranges of a list of entries

pub slice_range-append : (xs ys : List (ℕ × ℕ)) (a b : ℕ) → a ≤ b → b ≤ length xs → slice_range (xs ++ ys) a b ≡ slice_range xs a b
slice_range-append xs ys a b le within =
    ap (take (b - a)) (drop-append-le a xs ys (omega arith)) ∙ take-append-le (b - a) (drop a xs) ys (omega (arith, length-drop a xs))

-- the first k of a range
pub front_of_range : (entries : List (ℕ × ℕ)) (first end k : ℕ) → k ≤ end - first → take k (slice_range entries first end) ≡ slice_range entries first (first + k)
front_of_range entries first end k le =
    let n : first + k - first ≡ k = omega arith in
    take-take k (end - first) (drop first entries) le ∙ ap (λ i. take i (drop first entries)) (sym n)

pub length_of_range : (entries : List (ℕ × ℕ)) (first end : ℕ) → end ≤ length entries → length (slice_range entries first end) ≡ end - first
length_of_range entries first end h = length-take-le (end - first) (drop first entries) (omega (arith, length-drop first entries))

-- the stack stands where its front does and the rest follows it
pub follows : (entries stack : List (ℕ × ℕ)) (first k : ℕ) → k ≤ length stack → first + k ≤ length entries → slice_range entries first (first + k) ≡ take k stack →
    take (length (drop k stack)) (drop (first + k) entries) ≡ drop k stack → slice_range entries first (first + length stack) ≡ stack
follows entries stack first k some within same rest =
    let m = length (drop k stack) in
    let n : first + length stack - first ≡ k + m = omega (arith, length-drop k stack) in
    let n' : first + k - first ≡ k = omega arith in
    ap (λ i. take i (drop first entries)) n ∙ take-add k m (drop first entries)
    ∙ ap₂ ◌++◌ (ap (λ i. take i (drop first entries)) (sym n') ∙ same) (ap (take m) (drop-drop k first entries) ∙ rest)
    ∙ take-append-drop k stack

-- ---- boundaries

pub length-boundaries_from : (entries : List (ℕ × ℕ)) (ss : List Stretch) (k : ℕ) (ps : List ℕ) → length (boundaries_from entries ss k ps) ≡ length ps
length-boundaries_from entries ss k [] = refl
length-boundaries_from entries ss k (p ∷ ps) = ap suc (length-boundaries_from entries ss (k + 1) ps)

boundary_place_from : (entries : List (ℕ × ℕ)) (ss : List Stretch) (k : ℕ) (ps : List ℕ) (i j : ℕ) → i < length ps → j ≡ k + i →
    boundary_at (boundaries_from entries ss k ps) i ≡ record { place = get_or ps i 0; entries = entries_of entries (stretch_at ss j) }
boundary_place_from entries ss k [] i j lt e = absurd (omega arith)
boundary_place_from entries ss k (p ∷ ps) zero j lt e =
    let at : k ≡ j = omega arith in
    ap (λ i. record { place = p; entries = entries_of entries (stretch_at ss i) }) at
boundary_place_from entries ss k (p ∷ ps) (suc i) j lt e = boundary_place_from entries ss (k + 1) ps i j (omega arith) (omega arith)

pub boundary_at-bounds : (entries : List (ℕ × ℕ)) (ss : List Stretch) (ps : List ℕ) (i : ℕ) → i < length ps →
    boundary_at (boundaries_from entries ss 0 ps) i ≡ record { place = get_or ps i 0; entries = entries_of entries (stretch_at ss i) }
boundary_at-bounds entries ss ps i lt = boundary_place_from entries ss 0 ps i i lt (omega arith)

pub within_places : (entries : List (ℕ × ℕ)) (ss : List Stretch) (ps : List ℕ) (ms : List Boundary) (i : ℕ) → boundaries_from entries ss 0 ps ≡ ms → i < length ms → i < length ps
within_places entries ss ps ms i e lt = omega (arith, length-boundaries_from entries ss 0 ps, ap length e)

pub place_is : (entries : List (ℕ × ℕ)) (ss : List Stretch) (ps : List ℕ) (ms : List Boundary) (i d : ℕ) → boundaries_from entries ss 0 ps ≡ ms → i < length ms → get_or ps i d ≡ (boundary_at ms i).place
place_is entries ss ps ms i d e lt =
    let within = within_places entries ss ps ms i e lt in
    get_or_default ps i d 0 within ∙ ap (λ (m : Boundary). m.place) (sym (boundary_at-bounds entries ss ps i within) ∙ ap (λ ms. boundary_at ms i) e)

-- the stacks agree
pub bounds_agree : (entries more : List (ℕ × ℕ)) (ss now : List Stretch) (k : ℕ) (ps : List ℕ) →
    ((i : ℕ) → i < k + length ps → entries_of more (stretch_at now i) ≡ entries_of entries (stretch_at ss i)) → boundaries_from more now k ps ≡ boundaries_from entries ss k ps
bounds_agree entries more ss now k [] h = refl
bounds_agree entries more ss now k (p ∷ ps) h =
    ap₂ (λ r ms. record { place = p; entries = r } ∷ ms) (h k (omega arith)) (bounds_agree entries more ss now (k + 1) ps (λ i lt. h i (omega arith)))

bounds_push : (entries : List (ℕ × ℕ)) (ss : List Stretch) (k : ℕ) (ps : List ℕ) (p j : ℕ) → j ≡ k + length ps →
    boundaries_from entries ss k (ps ++ p ∷ []) ≡ boundaries_from entries ss k ps ++ record { place = p; entries = entries_of entries (stretch_at ss j) } ∷ []
bounds_push entries ss k [] p j e =
    let at : k ≡ j = omega arith in
    ap (λ i. record { place = p; entries = entries_of entries (stretch_at ss i) } ∷ []) at
bounds_push entries ss k (x ∷ ps) p j e = ap (λ ms. record { place = x; entries = entries_of entries (stretch_at ss k) } ∷ ms) (bounds_push entries ss (k + 1) ps p j (omega arith))

-- ---- the fields

no_range : (entries : List (ℕ × ℕ)) → IsRange (length entries) no_stretch
no_range entries = record { ordered = omega arith; within = omega arith }

-- the stretch's range has these entries
pub record Holds (entries : List (ℕ × ℕ)) (s : Stretch) (stack : List (ℕ × ℕ)) : Type 0 where
  pub range : IsRange (length entries) s
  pub is : entries_of entries s ≡ stack

pub range_at : {len : ℕ} (ss : List Stretch) (i : ℕ) {s : Stretch} → s ≡ stretch_at ss i → All (IsRange len) ss → IsRange len s
range_at {len} ss i {s} is h = subst (IsRange len) (sym is) (begun_by-All (IsRange len) no_stretch ss i (record { ordered = omega arith; within = omega arith }) h)

-- the stretch that the boundary is in
pub range_is : {entries : List (ℕ × ℕ)} {ss now : List Stretch} {ps : List ℕ} {ms : List Boundary} {s : Stretch} (i : ℕ) → AreInOrder entries ss ps → boundaries_from entries ss 0 ps ≡ ms → i < length ms →
    s ≡ stretch_at now i → now ≡ ss → Holds entries s (boundary_at ms i).entries
range_is {entries} {ss} {now} {ps} {ms} {s} i h e lt is e' =
    let at : s ≡ stretch_at ss i = is ∙ ap (λ xs. stretch_at xs i) e' in
    record {
      range = subst (IsRange (length entries)) (sym at) (begun_by-All (IsRange (length entries)) no_stretch ss i (no_range entries) h.ranges);
      is = ap (entries_of entries) at ∙ ap (λ (m : Boundary). m.entries) (sym (boundary_at-bounds entries ss ps i (within_places entries ss ps ms i e lt)) ∙ ap (λ ms. boundary_at ms i) e);
    }

-- the stretch that begins with the boundary
pub entered_is : {entries : List (ℕ × ℕ)} {ss : List Stretch} {ps : List ℕ} {n : ℕ} {ms : List Boundary} {s : Stretch} (i : ℕ) → AreInOrder entries ss ps → boundaries_from entries ss 0 ps ≡ ms → i < length ms →
    AreBegun ss (n + 1) i → n < length ss → s ≡ get_or ss n s → Holds entries s (boundary_at ms i).entries
entered_is {entries} {ss} {ps} {n} {ms} {s} i h e lt begun within is =
    range_is i h e lt (is ∙ sym (last_of_front no_stretch ss n s within) ∙ sym (stretch_at-begun begun)) refl

-- the last of the first so many stretches
pub front_range : {entries : List (ℕ × ℕ)} {ss now : List Stretch} {ps : List ℕ} {s : Stretch} (n : ℕ) → AreInOrder entries ss ps → s ≡ last_stretch no_stretch (take n now) → now ≡ ss →
    Holds entries s (entries_of entries (last_stretch no_stretch (take n ss)))
front_range {entries} {ss} {now} {ps} {s} n h is e =
    let at : s ≡ last_stretch no_stretch (take n ss) = is ∙ ap (λ xs. last_stretch no_stretch (take n xs)) e in
    record {
      range = subst (IsRange (length entries)) (sym at) (last_stretch-All (IsRange (length entries)) no_stretch (take n ss) (no_range entries) (All-take (IsRange (length entries)) n ss h.ranges));
      is = ap (entries_of entries) at;
    }

-- from the last stretch on
after_last : (ss : List Stretch) (n i : ℕ) → All (λ s. s.from < n) ss → n ≤ i + 1 → stretch_at ss i ≡ last_stretch no_stretch ss
after_last ss n i h le = begun_by-all no_stretch ss i (All-weaker (λ s. s.from < n) (λ s. s.from ≤ i) (λ s lt. omega arith) ss h)

last_entries-is : (entries : List (ℕ × ℕ)) (ss : List Stretch) (ps : List ℕ) → All (λ s. s.from < length ps) ss → last_entries (boundaries_from entries ss 0 ps) ≡ entries_of entries (last_stretch no_stretch ss)
last_entries-is entries [] [] h = refl
last_entries-is entries (s ∷ ss) [] h = absurd (omega (arith, All-head (λ s. s.from < 0) s ss h))
last_entries-is entries ss (p ∷ ps) h =
    let n : length (boundaries_from entries ss 0 (p ∷ ps)) - 1 ≡ length ps = omega (arith, length-boundaries_from entries ss 0 (p ∷ ps)) in
    ap (λ i. (boundary_at (boundaries_from entries ss 0 (p ∷ ps)) i).entries) n
    ∙ ap (λ (m : Boundary). m.entries) (boundary_at-bounds entries ss (p ∷ ps) (length ps) (omega arith))
    ∙ ap (entries_of entries) (after_last ss (length (p ∷ ps)) (length ps) h (omega arith))

pub last_entries-push : (ms : List Boundary) (m : Boundary) → last_entries (ms ++ m ∷ []) ≡ m.entries
last_entries-push ms m =
    let n : length ms ≡ length (ms ++ m ∷ []) - 1 = omega (arith, length-append ms (m ∷ [])) in
    ap (λ i. (boundary_at (ms ++ m ∷ []) i).entries) (sym n) ∙ ap (λ (x : Boundary). x.entries) (get_or_at ms m [] no_boundary (length ms) refl)

-- the last boundary's stretch
pub last_range : {entries : List (ℕ × ℕ)} {ss now : List Stretch} {ps : List ℕ} {ms : List Boundary} {s : Stretch} → AreInOrder entries ss ps → boundaries_from entries ss 0 ps ≡ ms →
    s ≡ last_stretch no_stretch now → now ≡ ss → Holds entries s (last_entries ms)
last_range {entries} {ss} {now} {ps} {ms} {s} h e is e' =
    let at : s ≡ last_stretch no_stretch ss = is ∙ ap (last_stretch no_stretch) e' in
    record {
      range = subst (IsRange (length entries)) (sym at) (last_stretch-All (IsRange (length entries)) no_stretch ss (no_range entries) h.ranges);
      is = ap (entries_of entries) at ∙ sym (last_entries-is entries ss ps h.begun) ∙ ap last_entries e;
    }

-- two ranges that begin at one place
pub Stay-ranges : {entries old new : List (ℕ × ℕ)} {a b : Stretch} (end : ℕ) → Holds entries a new → Holds entries b old → a.first ≡ b.first → end ≤ a.end → end ≤ b.end → Stay (end - a.first) old new
Stay-ranges {entries} {old} {new} {a} {b} end ha hb e le lb =
    let k : ℕ = end - a.first in
    let la = length_of_range entries a.first a.end ha.range.within in
    let lb' = length_of_range entries b.first b.end hb.range.within in
    record {
      there = omega (arith, ap length hb.is);
      within = omega (arith, ap length ha.is);
      same =
          ap (take k) (sym ha.is) ∙ front_of_range entries a.first a.end k (omega arith) ∙ ap (λ i. slice_range entries i (i + k)) e
          ∙ sym (front_of_range entries b.first b.end k (omega arith)) ∙ ap (take k) hb.is;
    }

room : {entries old stack : List (ℕ × ℕ)} {s : Stretch} {k : ℕ} → Holds entries s old → Stay k old stack → k ≤ s.end - s.first
room {entries} {old} {stack} {s} {k} h st = omega (arith, st.there, ap length h.is, length_of_range entries s.first s.end h.range.within)

-- the stack is the old one
pub stays_whole : {entries old stack : List (ℕ × ℕ)} {s : Stretch} {k : ℕ} → Holds entries s old → Stay k old stack → k ≡ length stack → k ≡ s.end - s.first → stack ≡ old
stays_whole {entries} {old} {stack} {s} {k} h st whole all =
    sym (take_all k stack (omega arith)) ∙ st.same ∙ take_all k old (omega (arith, ap length h.is, length_of_range entries s.first s.end h.range.within))

-- where the entries that stay stand
pub stays_within : {entries old stack : List (ℕ × ℕ)} {s : Stretch} {k : ℕ} → Holds entries s old → Stay k old stack → s.first + k ≤ length entries
stays_within {entries} {old} {stack} {s} {k} h st = omega (arith, room h st, h.range.ordered, h.range.within)

pub stays_same : {entries old stack : List (ℕ × ℕ)} {s : Stretch} {k : ℕ} → Holds entries s old → Stay k old stack → slice_range entries s.first (s.first + k) ≡ take k stack
stays_same {entries} {old} {stack} {s} {k} h st = sym (front_of_range entries s.first s.end k (room h st)) ∙ ap (take k) h.is ∙ sym st.same

-- more entries
pub bounds_more_entries : {entries more : List (ℕ × ℕ)} {ss : List Stretch} {ps : List ℕ} → more ≡ entries ++ drop (length entries) more → AreInOrder entries ss ps →
    boundaries_from more ss 0 ps ≡ boundaries_from entries ss 0 ps
bounds_more_entries {entries} {more} {ss} {ps} e h =
    bounds_agree entries more ss ss 0 ps (λ i lt. let s = stretch_at ss i in
    let r : IsRange (length entries) s = begun_by-All (IsRange (length entries)) no_stretch ss i (no_range entries) h.ranges in
    ap (λ rs. entries_of rs s) e ∙ slice_range-append entries (drop (length entries) more) s.first s.end r.ordered r.within)

pub in_order_more_entries : {entries more : List (ℕ × ℕ)} {ss : List Stretch} {ps : List ℕ} → more ≡ entries ++ drop (length entries) more → AreInOrder entries ss ps → AreInOrder more ss ps
in_order_more_entries {entries} {more} {ss} {ps} e h =
    let long : length entries ≤ length more = omega (arith, ap length e, length-append entries (drop (length entries) more)) in
    record {
      ranges = All-weaker (IsRange (length entries)) (IsRange (length more)) (λ s r. record { ordered = r.ordered; within = omega (arith, r.within) }) ss h.ranges;
      begun = h.begun;
      rising = h.rising;
    }

longer : (ss : List Stretch) (ps now : List ℕ) (p : ℕ) → now ≡ ps ++ p ∷ [] → All (λ s. s.from < length ps) ss → All (λ s. s.from < length now) ss
longer ss ps now p e h = All-weaker (λ s. s.from < length ps) (λ s. s.from < length now) (λ s lt. omega (arith, ap length e, length-append ps (p ∷ []))) ss h

-- one more boundary with the last one's stack
pub bounds_repeat : {entries : List (ℕ × ℕ)} {ss : List Stretch} {ps now : List ℕ} (p : ℕ) → now ≡ ps ++ p ∷ [] → AreInOrder entries ss ps →
    boundaries_from entries ss 0 now ≡ boundaries_from entries ss 0 ps ++ record { place = p; entries = last_entries (boundaries_from entries ss 0 ps) } ∷ []
bounds_repeat {entries} {ss} {ps} {now} p e h =
    let same : entries_of entries (stretch_at ss (length ps)) ≡ last_entries (boundaries_from entries ss 0 ps) =
    ap (entries_of entries) (after_last ss (length ps) (length ps) h.begun (omega arith)) ∙ sym (last_entries-is entries ss ps h.begun) in
    ap (boundaries_from entries ss 0) e ∙ bounds_push entries ss 0 ps p (length ps) (omega arith) ∙ ap (λ r. boundaries_from entries ss 0 ps ++ record { place = p; entries = r } ∷ []) same

pub in_order_repeat : {entries : List (ℕ × ℕ)} {ss : List Stretch} {ps now : List ℕ} (p : ℕ) → now ≡ ps ++ p ∷ [] → AreInOrder entries ss ps → AreInOrder entries ss now
in_order_repeat {entries} {ss} {ps} {now} p e h =
    record {
      ranges = h.ranges;
      begun = longer ss ps now p e h.begun;
      rising = h.rising;
    }

-- one more boundary with a stretch of its own
pub bounds_enter : {entries : List (ℕ × ℕ)} {ss now : List Stretch} {ps places : List ℕ} (s : Stretch) (p : ℕ) → now ≡ ss ++ s ∷ [] → places ≡ ps ++ p ∷ [] → s.from ≡ length ps → AreInOrder entries ss ps →
    boundaries_from entries now 0 places ≡ boundaries_from entries ss 0 ps ++ record { place = p; entries = entries_of entries s } ∷ []
bounds_enter {entries} {ss} {now} {ps} {places} s p e e' from h =
    ap₂ (λ ss ps. boundaries_from entries ss 0 ps) e e' ∙ bounds_push entries (ss ++ s ∷ []) 0 ps p (length ps) (omega arith)
    ∙ ap₂ (λ ms t. ms ++ record { place = p; entries = entries_of entries t } ∷ [])
    (bounds_agree entries entries ss (ss ++ s ∷ []) 0 ps (λ i lt. ap (entries_of entries) (stretch_at-before ss s i (omega arith))))
    (stretch_at-last ss s (length ps) (omega arith))

pub in_order_enter : {entries : List (ℕ × ℕ)} {ss now : List Stretch} {ps places : List ℕ} (s : Stretch) (p : ℕ) → now ≡ ss ++ s ∷ [] → places ≡ ps ++ p ∷ [] →
    s.from ≡ length ps → IsRange (length entries) s → AreInOrder entries ss ps → AreInOrder entries now places
in_order_enter {entries} {ss} {now} {ps} {places} s p e e' from range h =
    let here : s.from < length places = omega (arith, ap length e', length-append ps (p ∷ [])) in
    record {
      ranges = subst (All (IsRange (length entries))) (sym e) (All-push (IsRange (length entries)) ss s h.ranges range);
      begun = subst (All (λ t. t.from < length places)) (sym e) (All-push (λ t. t.from < length places) ss s (longer ss ps places p e' h.begun) here);
      rising = subst AreRising (sym e) (all_pairs_push (λ s t. s.from < t.from) ss s h.rising (λ k d lt. omega (arith, h.begun k d lt)));
    }

-- ---- the greatest number of entries

most_entries-at : (ms : List Boundary) (i : ℕ) → length (boundary_at ms i).entries ≤ most_entries ms
most_entries-at [] i = omega arith
most_entries-at (m ∷ ms) zero = omega arith
most_entries-at (m ∷ ms) (suc i) = omega (arith, most_entries-at ms i)

most_entries-below : (entries : List (ℕ × ℕ)) (ss : List Stretch) (k : ℕ) (ps : List ℕ) (n : ℕ) → ((i : ℕ) → length (entries_of entries (stretch_at ss i)) ≤ n) → most_entries (boundaries_from entries ss k ps) ≤ n
most_entries-below entries ss k [] n h = omega arith
most_entries-below entries ss k (p ∷ ps) n h = omega (arith, h k, most_entries-below entries ss (k + 1) ps n h)

-- each boundary has a stretch's stack or none, and each stretch is that of the boundary with which it begins
pub longest_is : {entries : List (ℕ × ℕ)} {ss : List Stretch} {ps : List ℕ} → AreInOrder entries ss ps → longest ss ≡ most_entries (boundaries_from entries ss 0 ps)
longest_is {entries} {ss} {ps} h =
    let ms = boundaries_from entries ss 0 ps in
    let below : most_entries ms ≤ longest ss =
    most_entries-below entries ss 0 ps (longest ss) (λ i. let s = stretch_at ss i in
    let r : IsRange (length entries) s = begun_by-All (IsRange (length entries)) no_stretch ss i (no_range entries) h.ranges in
    let le : s.end - s.first ≤ longest ss = begun_by-All (λ s. s.end - s.first ≤ longest ss) no_stretch ss i (omega arith) (longest-above ss) in
    omega (arith, length_of_range entries s.first s.end r.within)) in
    let above : longest ss ≤ most_entries ms =
    longest-below ss (most_entries ms) (λ j d lt. let s = get_or ss j d in
    let is = boundary_at-bounds entries ss ps s.from (h.begun j d lt) in
    let at = stretch_at-from ss j d h.rising lt in
    let long = length_of_range entries s.first s.end (h.ranges j d lt).within in
    omega (arith, most_entries-at ms s.from, ap (λ (m : Boundary). length m.entries) is, ap (λ s. length (entries_of entries s)) at)) in
    omega arith
