-- A run that meets the old one ends as that does.
use Rattle.std.proofs.Common.{◌≡◌, ℕ, zero, suc, ◌+◌, ◌-◌, List, [], ◌∷◌, ◌++◌, map, take, drop, Some, slice_get, option_map, refl, sym, ap, ap₂, ◌∙◌, subst, arith, All, append_assoc}
use Rattle.std.specs.List.Sorted.{IsPartitionedBy}
use Rattle.std.proofs.lemmas.Option.{none-some, same_Some, slice_get-map}
use Rattle.std.proofs.lemmas.List.{map-append, drop-map}
use Rattle.std.proofs.lemmas.List.Elements.{All-append, All-map, All-drop}
use Rattle.lrlex_rules.specs.Definition.{Definition}
use Rattle.lrlex_rules.specs.Tiling.{Item, End, stack_past, IsTiling, items, boundaries, rebased, lexemes}
use Rattle.lrlex_boundaries.specs.Entries.{plain, AreEntries}
use Rattle.lrlex_boundaries.specs.Boundaries.{Boundary, place_and_stack}
use Rattle.lrlex_boundaries.specs.Moves.{moved_boundary}
use Rattle.lrlex.specs.Moves.{begins_before, items_from}
use Rattle.lrlex.specs.Reach.{Reached, IsLexed}
use Rattle.lrlex_rules.specs.Tiling.{Tile}
use Rattle.lrlex_rules.proofs.TilingLemmas.{only_one}
use Rattle.lrlex.proofs.TailLemmas.{tail_tiling}
use Rattle.lrlex.proofs.EditLemmas.{items_tail, items_rebased}
use Rattle.lrlex.proofs.ReachLemmas.{bounds_now}
use Rattle.lrlex.proofs.WithinLemmas.{IsParted, part_from, part_order, lexemes_before, tail_from}

-- ---- what follows a boundary

pub boundaries_tail : (d : Definition) (place : ℕ) (stack : List ℕ) (ts : List Tile) (j p : ℕ) (s : List ℕ) → slice_get (boundaries d place stack ts) j ≡ Some (p, s) →
    drop j (boundaries d place stack ts) ≡ boundaries d p s (drop j ts)
boundaries_tail d place stack [] zero p s at = ap (λ (b : ℕ × List ℕ). boundaries d b.0 b.1 []) (same_Some _ _ at)
boundaries_tail d place stack [] (suc j) p s at = absurd (none-some _ at)
boundaries_tail d place stack (t ∷ ts) zero p s at = ap (λ (b : ℕ × List ℕ). boundaries d b.0 b.1 (t ∷ ts)) (same_Some _ _ at)
boundaries_tail d place stack (t ∷ ts) (suc j) p s at = boundaries_tail d (place + t.len) (stack_past d stack t) ts j p s at

-- ---- what is moved

shift : ℕ → ℕ → ℕ × List ℕ → ℕ × List ℕ
shift p q b = ((b.0 + q) - p, b.1)

boundaries_shifted : (d : Definition) (p q n : ℕ) (s : List ℕ) (us : List Tile) → boundaries d (q + n) s us ≡ map (shift p q) (boundaries d (p + n) s us)
unfolding shift
boundaries_shifted d p q n s [] =
    let e : ((p + n) + q) - p ≡ q + n = omega arith in
    ap (λ i. (i, s) ∷ []) (sym e)
boundaries_shifted d p q n s (t ∷ us) =
    let e : ((p + n) + q) - p ≡ q + n = omega arith in
    let a : (q + n) + t.len ≡ q + (n + t.len) = omega arith in
    let b : p + (n + t.len) ≡ (p + n) + t.len = omega arith in
    ap₂ (λ i (bs : List (ℕ × List ℕ)). (i, s) ∷ bs) (sym e)
    (ap (λ i. boundaries d i (stack_past d s t) us) a ∙ boundaries_shifted d p q (n + t.len) (stack_past d s t) us ∙ ap (λ i. map (shift p q) (boundaries d i (stack_past d s t) us)) b)

-- ---- a meeting

drop_found : {A : Type 0} (xs : List A) (j : ℕ) (x : A) → slice_get xs j ≡ Some x → drop j xs ≡ x ∷ drop (j + 1) xs
drop_found [] j x at = absurd (none-some _ at)
drop_found (y ∷ xs) zero x at = ap (λ z. z ∷ xs) (same_Some _ _ at)
drop_found (y ∷ xs) (suc j) x at = let e : suc j + 1 ≡ suc (j + 1) = omega arith in drop_found xs j x at ∙ ap (λ i. x ∷ drop i (y ∷ xs)) (sym e)

map_twice : {A B C : Type 0} (f : B → C) (g : A → B) (xs : List A) → map f (map g xs) ≡ map (λ x. f (g x)) xs
map_twice f g [] = refl
map_twice f g (x ∷ xs) = ap (λ ys. f (g x) ∷ ys) (map_twice f g xs)

pub record AtBoundary (d : Definition) (text : List ℕ) (ts : List Tile) (e : End) (found : List Item) (bounds : List Boundary) (j : ℕ) (m : Boundary) : Type 0 where
  pub tiling : IsTiling d text (0 ∷ []) ts e
  pub items_are : found ≡ items d 0 ts e
  pub boundaries_are : map place_and_stack bounds ≡ boundaries d 0 (0 ∷ []) ts
  pub at : slice_get bounds j ≡ Some m

module _ (d : Definition) (text : List ℕ) (ts : List Tile) (e : End) (found : List Item) (bounds : List Boundary) (j : ℕ) (m : Boundary) (b : AtBoundary d text ts e found bounds j m) where
  pub at_bound : slice_get (boundaries d 0 (0 ∷ []) ts) j ≡ Some (m.place, plain m.entries)
  at_bound = ap (λ bs. slice_get bs j) (sym b.boundaries_are) ∙ slice_get-map place_and_stack bounds j ∙ ap (option_map place_and_stack) b.at

  pub parted : IsParted m.place found (lexemes d 0 (take j ts)) (items d m.place (drop j ts) e)
  parted = record {
    is = b.items_are ∙ items_tail d 0 (0 ∷ []) ts e j m.place (plain m.entries) at_bound;
    before = lexemes_before d text 0 (0 ∷ []) ts e j m.place (plain m.entries) b.tiling at_bound;
    from = tail_from d text 0 (0 ∷ []) ts e j m.place (plain m.entries) b.tiling (omega arith) at_bound;
  }

  pub tail_items : items_from m.place found ≡ items d m.place (drop j ts) e
  tail_items = part_from m.place found _ _ parted

  pub in_order : IsPartitionedBy (begins_before m.place) found
  in_order = part_order m.place found _ _ parted

  tail_bounds : map place_and_stack (drop j bounds) ≡ boundaries d m.place (plain m.entries) (drop j ts)
  tail_bounds = sym (drop-map place_and_stack j bounds) ∙ ap (drop j) b.boundaries_are ∙ boundaries_tail d 0 (0 ∷ []) ts j m.place (plain m.entries) at_bound

  pub moved_bounds : (q : ℕ) → boundaries d q (plain m.entries) (drop j ts) ≡ (q, plain m.entries) ∷ map place_and_stack (map (moved_boundary m.place q) (drop (j + 1) bounds))
  unfolding shift
  moved_bounds q =
      let z : q + 0 ≡ q = omega arith in
      let y : m.place + 0 ≡ m.place = omega arith in
      let f : (m.place + q) - m.place ≡ q = omega arith in
      ap (λ i. boundaries d i (plain m.entries) (drop j ts)) (sym z)
      ∙ boundaries_shifted d m.place q 0 (plain m.entries) (drop j ts)
      ∙ ap (λ i. map (shift m.place q) (boundaries d i (plain m.entries) (drop j ts))) y
      ∙ ap (map (shift m.place q)) (sym tail_bounds ∙ ap (map place_and_stack) (drop_found bounds j m b.at))
      ∙ ap₂ (λ i (bs : List (ℕ × List ℕ)). (i, plain m.entries) ∷ bs) f
      (map_twice (shift m.place q) place_and_stack (drop (j + 1) bounds) ∙ sym (map_twice place_and_stack (moved_boundary m.place q) (drop (j + 1) bounds)))

-- a run that meets the old one, with the old tail moved
pub spliced : (d : Definition) (old new : List ℕ) (ts : List Tile) (e : End) (found bounds_found : List Item) (bounds olds : List Boundary) (j q : ℕ) (m : Boundary) (stack : List (ℕ × ℕ)) (asked : ℕ) →
    (r : Reached d new q stack found bounds asked) → (b : AtBoundary d old ts e bounds_found olds j m) → All (λ x. AreEntries x.entries) olds →
    m.entries ≡ stack → drop m.place old ≡ drop q new →
    IsLexed d new (found ++ map (rebased m.place q) (items_from m.place bounds_found)) (bounds ++ map (moved_boundary m.place q) (drop (j + 1) olds))
spliced d old new ts e found old_found bounds olds j q m stack asked r b entries stacks same = record {
  cut = r.cut ++ drop j ts;
  end = e;
  tiling = whole;
  only = only_one d new (r.cut ++ drop j ts) e whole;
  items_are =
      ap (λ xs. found ++ map (rebased m.place q) xs) (tail_items d old ts e old_found olds j m b)
      ∙ ap (λ xs. found ++ xs) (sym (items_rebased d m.place q (drop j ts) e)) ∙ sym (r.gives (drop j ts) e);
  boundaries_are =
      map-append place_and_stack bounds _ ∙ ap (λ xs. xs ++ map place_and_stack (map (moved_boundary m.place q) (drop (j + 1) olds))) (bounds_now d new q stack found bounds asked r)
      ∙ append_assoc (map place_and_stack r.before) ((q, plain stack) ∷ []) _
      ∙ ap (λ xs. map place_and_stack r.before ++ xs) (ap (λ s. (q, plain s) ∷ map place_and_stack (map (moved_boundary m.place q) (drop (j + 1) olds))) (sym stacks)
      ∙ sym (moved_bounds d old ts e old_found olds j m b q) ∙ ap (λ s. boundaries d q (plain s) (drop j ts)) stacks)
      ∙ sym (r.enters (drop j ts));
  entries = All-append (λ (x : Boundary). AreEntries x.entries) bounds _ r.entries
      (All-map (λ (x : Boundary). AreEntries x.entries) (moved_boundary m.place q) (drop (j + 1) olds) (All-drop (λ x. AreEntries x.entries) (j + 1) olds entries));
} where
  whole : IsTiling d new (0 ∷ []) (r.cut ++ drop j ts) e
  whole =
      r.goes_on (drop j ts) e (subst (λ s. IsTiling d (drop q new) (plain s) (drop j ts) e) stacks
      (subst (λ rest. IsTiling d rest (plain m.entries) (drop j ts) e) same
      (tail_tiling d old 0 (0 ∷ []) ts e j m.place (plain m.entries) b.tiling (at_bound d old ts e old_found olds j m b))))
