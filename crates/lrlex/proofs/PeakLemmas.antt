-- How high a stack grows in entries.
use Rattle.std.proofs.Common.{◌≡◌, ℕ, zero, suc, ◌+◌, ◌-◌, ◌<◌, ◌≤◌, max, Bool, true, false, cond, ◌==◌, List, [], ◌∷◌, ◌++◌, length, map, take, Option, None, Some, refl, sym, ap, ap₂, ◌∙◌, subst, arith, All, length-append}
use Rattle.std.proofs.lemmas.List.Elements.{All-head, All-tail}
use Rattle.std.proofs.lemmas.List.{length-map}
use Rattle.lrlex_rules.specs.Definition.{Definition}
use Rattle.lrlex_rules.specs.Active.{rule_at}
use Rattle.lrlex_rules.specs.Tiling.{Item, top, or_initial, stack_after, stack_past, boundaries}
use Rattle.lrlex_boundaries.specs.Entries.{AreEntries, entry_count}
use Rattle.lrlex_boundaries.specs.Boundaries.{Boundary, place_and_stack, most_entries, most_entry_count}
use Rattle.lrlex.specs.Reach.{IsLexed}
use Rattle.lrlex.specs.Peaks.{pushes_other, pushes}
use Rattle.lrlex_rules.specs.declared.states.StartStateOperation.{StartStateOperation}
use Rattle.lrlex_rules.specs.declared.states.StartStateOperation.TheVariants.{ReplaceStack, Push, Pop}
use Rattle.lrlex_rules.specs.Tiling.{Tile}
use Rattle.lrlex.proofs.EntryLemmas.{entry_count-plain, top-last}

pub most-plain : (ms : List Boundary) → All (λ m. AreEntries m.entries) ms → most_entries ms ≡ most_entry_count (map place_and_stack ms)
most-plain [] h = refl
most-plain (m ∷ ms) h = ap₂ max (sym (entry_count-plain m.entries (All-head (λ (m : Boundary). AreEntries m.entries) m ms h))) (most-plain ms (All-tail (λ (m : Boundary). AreEntries m.entries) m ms h))

one_at_least : (b : Bool) (e n : ℕ) → 1 ≤ e → 1 ≤ cond b e (n + 1)
one_at_least true e n h = h
one_at_least false e n h = omega arith

entry_count-some : (x : ℕ) (xs : List ℕ) → 1 ≤ entry_count (x ∷ xs)
entry_count-some x [] = omega arith
entry_count-some x (y ∷ ys) = one_at_least (y == x) (entry_count (y ∷ ys)) (entry_count (y ∷ ys)) (entry_count-some y ys)

cond-mono : (b : Bool) (m n k : ℕ) → m ≤ n + k → cond b m (m + 1) ≤ cond b n (n + 1) + k
cond-mono true m n k h = h
cond-mono false m n k h = omega arith

-- a front has no more entries
entry_count-take : (n : ℕ) (s : List ℕ) → entry_count (take n s) ≤ entry_count s
entry_count-take zero s = omega arith
entry_count-take (suc n) [] = omega arith
entry_count-take (suc zero) (x ∷ xs) = omega (arith, entry_count-some x xs)
entry_count-take (suc (suc n)) (x ∷ []) = omega arith
entry_count-take (suc (suc n)) (x ∷ y ∷ ys) =
    omega (arith, cond-mono (y == x) (entry_count (y ∷ take n ys)) (entry_count (y ∷ ys)) 0 (omega (arith, entry_count-take (suc n) (y ∷ ys))))

one_or_two : (b : Bool) → cond b 1 2 ≤ 1 + cond b 0 1
one_or_two true = omega arith
one_or_two false = omega arith

-- a push adds a run where the state is another
entry_count-push : (s : List ℕ) (x q : ℕ) → entry_count ((s ++ x ∷ []) ++ q ∷ []) ≤ entry_count (s ++ x ∷ []) + cond (q == x) 0 1
entry_count-push [] x q = one_or_two (q == x)
entry_count-push (y ∷ []) x q = cond-mono (x == y) (entry_count (x ∷ q ∷ [])) (entry_count (x ∷ [])) (cond (q == x) 0 1) (entry_count-push [] x q)
entry_count-push (y ∷ z ∷ s) x q = cond-mono (z == y) (entry_count ((z ∷ s ++ x ∷ []) ++ q ∷ [])) (entry_count (z ∷ s ++ x ∷ [])) (cond (q == x) 0 1) (entry_count-push (z ∷ s) x q)

record HasTop (s : List ℕ) : Type 0 where
  front : List ℕ
  last : ℕ
  is : s ≡ front ++ last ∷ []

has_top : (x : ℕ) (s : List ℕ) → HasTop (x ∷ s)
has_top x [] = record { front = []; last = x; is = refl }
has_top x (y ∷ s) = let h = has_top y s in record { front = x ∷ h.front; last = h.last; is = ap (λ zs. x ∷ zs) h.is }

entry_count-pushed : (s : List ℕ) (q : ℕ) → 0 < length s → entry_count (s ++ q ∷ []) ≤ entry_count s + cond (q == top s) 0 1
entry_count-pushed [] q h = absurd (omega arith)
entry_count-pushed (x ∷ s) q h =
    let t = has_top x s in
    let on_top : top (x ∷ s) ≡ t.last = ap top t.is ∙ top-last t.front t.last in
    subst (λ i. entry_count ((x ∷ s) ++ q ∷ []) ≤ entry_count (x ∷ s) + cond (q == i) 0 1) (sym on_top)
    (subst (λ zs. entry_count (zs ++ q ∷ []) ≤ entry_count zs + cond (q == t.last) 0 1) (sym t.is) (entry_count-push t.front t.last q))

entry_count-or_initial : (s : List ℕ) → entry_count (or_initial s) ≤ max 1 (entry_count s)
entry_count-or_initial [] = omega arith
entry_count-or_initial (q ∷ qs) = omega arith

some_entry_count : (s : List ℕ) → 0 < length s → 1 ≤ entry_count s
some_entry_count [] h = absurd (omega arith)
some_entry_count (x ∷ s) h = entry_count-some x s

entry_count-after : (s : List ℕ) (target : Option (ℕ × StartStateOperation)) → 0 < length s → entry_count (stack_after s target) ≤ entry_count s + pushes_other s target
unfolding stack_after
entry_count-after s None h = omega arith
entry_count-after s (Some (q, ReplaceStack)) h = omega (arith, some_entry_count s h)
entry_count-after s (Some (q, Push)) h = entry_count-pushed s q h
entry_count-after s (Some (q, Pop)) h = omega (arith, some_entry_count s h, entry_count-or_initial (take (length s - 1) s), entry_count-take (length s - 1) s)

some_initial : (s : List ℕ) → 0 < length (or_initial s)
some_initial [] = omega arith
some_initial (q ∷ qs) = omega arith

some_after : (s : List ℕ) (target : Option (ℕ × StartStateOperation)) → 0 < length s → 0 < length (stack_after s target)
unfolding stack_after
some_after s None h = h
some_after s (Some (q, ReplaceStack)) h = omega arith
some_after s (Some (q, Push)) h = omega (arith, length-append s (q ∷ []))
some_after s (Some (q, Pop)) h = some_initial (take (length s - 1) s)

pub most-pushes : (d : Definition) (place : ℕ) (s : List ℕ) (ts : List Tile) → 0 < length s → most_entry_count (boundaries d place s ts) ≤ entry_count s + pushes d s ts
most-pushes d place s [] h = omega arith
most-pushes d place s (t ∷ ts) h =
    omega (arith, entry_count-after s (rule_at d t.rule).target h, most-pushes d (place + t.len) (stack_past d s t) ts (some_after s (rule_at d t.rule).target h))

pub length-boundaries : (d : Definition) (place : ℕ) (s : List ℕ) (ts : List Tile) → length (boundaries d place s ts) ≡ length ts + 1
length-boundaries d place s [] = refl
length-boundaries d place s (t ∷ ts) = omega (arith, length-boundaries d (place + t.len) (stack_past d s t) ts)

module _ (d : Definition) (text : List ℕ) (found : List Item) (bounds : List Boundary) (h : IsLexed d text found bounds) where
  pub peak_is : most_entries bounds ≡ most_entry_count (boundaries d 0 (0 ∷ []) h.cut)
  peak_is = most-plain bounds h.entries ∙ ap most_entry_count h.boundaries_are

  pub peak_few : most_entries bounds ≤ 1 + pushes d (0 ∷ []) h.cut
  peak_few = omega (arith, peak_is, most-pushes d 0 (0 ∷ []) h.cut (omega arith))

  pub tiles_are : length bounds ≡ length h.cut + 1
  tiles_are = sym (length-map bounds place_and_stack) ∙ ap length h.boundaries_are ∙ length-boundaries d 0 (0 ∷ []) h.cut
