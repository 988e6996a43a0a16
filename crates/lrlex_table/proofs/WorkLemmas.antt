-- How much of a table walks look at.
use Rattle.std.proofs.Common.{◌≡◌, ◌≢◌, ℕ, zero, suc, ◌+◌, ◌*◌, ◌<◌, ◌≤◌, List, [], ◌∷◌, length, take, get_or, Some, sym, ap, ◌∙◌, inl, inr, arith}
use Rattle.std.specs.Prelude.{if◌then◌else◌}
use Rattle.std.specs.List.{sum_by}
use Rattle.std.proofs.lemmas.Bool.{cases_lt}
use Rattle.std.proofs.lemmas.Bool.Decides.{eqb_tells}
use Rattle.std.proofs.lemmas.List.{take_more}
use Rattle.std.proofs.lemmas.List.Sums.{sum_by-append, sum_by-cons}
use Rattle.std.proofs.Math.Nat.{mul-le-mul_left}
use Rattle.lrlex_table.specs.Table.{next_rows, next_of}
use Rattle.lrlex_table.specs.Reach.{row_after, IsReach}
use Rattle.lrlex_table.specs.Work.{reach_from, reach_of, cells, IsLook}
use Rattle.lrlex_table.specs.declared.table.Table.{Table}
use Rattle.lrlex_table.specs.declared.merged_tables.Part.{Part}

reach_is : (next text : List ℕ) (r n : ℕ) → r ≢ 0 → n ≤ length text + 1 → ((i : ℕ) → 0 < i → i < n → row_after next r (take i text) ≢ 0) → (n ≤ length text → row_after next r (take n text) ≡ 0) →
    n ≡ reach_from next r text
reach_is next [] r zero some within needed enough = absurd (some (enough (omega arith)))
reach_is next [] r (suc n) some within needed enough = omega (arith, within)
reach_is next (b ∷ bs) r zero some within needed enough = absurd (some (enough (omega arith)))
reach_is next (b ∷ bs) r (suc n) some within needed enough =
    let q = next_of next r (Some b) in
    elim (eqb_tells q 0) [
      | inl (is, dead) ↦
          let none : n ≡ 0 = elim (cases_lt 0 n) [
            | inl more ↦ absurd (needed 1 (omega arith) (omega arith) dead)
            | inr most ↦ omega arith
          ] in
          ap suc (none ∙ sym (ap (λ e. if e then 0 else reach_from next q bs) is))
      | inr (isnt, living) ↦
          ap suc (reach_is next bs q n living (omega (arith, within)) (λ i more less. needed (suc i) (omega arith) (omega arith)) (λ le. enough (omega (arith, le)))
          ∙ sym (ap (λ e. if e then 0 else reach_from next q bs) isnt))
    ]

-- a walk's reach is how many cells it looks at
pub reach_looks : (t : Table) (text : List ℕ) (n : ℕ) → IsReach t text n → n ≡ reach_of t text
reach_looks t text n is = reach_is (next_rows t) text t.start n t.sound.5 is.within is.needed is.enough

pub cells_more : (parts : List Part) (text : List ℕ) (at : ℕ) (d : Part) → at < length parts → cells (take (at + 1) parts) text ≡ cells (take at parts) text + reach_of (get_or parts at d).table text
cells_more parts text at d lt =
    let f : Part → ℕ = λ p. reach_of p.table text in
    ap (sum_by f) (take_more parts at d lt) ∙ sum_by-append f (take at parts) (get_or parts at d ∷ []) ∙ ap (λ n. sum_by f (take at parts) + n) (sum_by-cons f (get_or parts at d) [] ∙ omega arith)

-- so many as these, each at most y
pub grown : (a c x y r : ℕ) → c ≤ a * x → x ≤ y → r ≤ y → c + r ≤ (a + 1) * y
grown a c x y r le up one = omega (arith, le, one, mul-le-mul_left a up)

-- of one table
pub cells_one : (parts : List Part) (part : Part) (text : List ℕ) (n : ℕ) → parts ≡ part ∷ [] → IsReach part.table text n → cells parts text ≡ n
cells_one parts part text n is reach =
    let f : Part → ℕ = λ p. reach_of p.table text in
    ap (sum_by f) is ∙ sum_by-cons f part [] ∙ omega (arith, reach_looks part.table text n reach)

-- the look at one more table
module _ (at len least most looked one both old new after : ℕ) (up : len ≤ most) (up_too : least ≤ most) (sum : both ≤ looked + one) where
  pub look_more : IsLook 1 at len looked old new → IsLook 1 1 least one new after → IsLook 1 (at + 1) most both old after
  look_more before here = (omega (arith, before.0, here.0), omega (arith, before.1, here.1, sum, up_too, mul-le-mul_left {m = len + 129} {n = most + 129} at (omega (arith, up))))

  pub look_twice_more : IsLook 2 at len looked old new → IsLook 2 1 least one new after → IsLook 2 (at + 1) most both old after
  look_twice_more before here = (omega (arith, before.0, here.0), omega (arith, before.1, here.1, sum, up_too, mul-le-mul_left {m = len + 129} {n = most + 129} at (omega (arith, up))))

-- a walk that doesn't go far
pub look_near : (tables len looked most reach known : ℕ) → looked ≤ most → most ≤ tables * reach → reach ≤ len + 128 → IsLook 3 tables len looked known known
look_near tables len looked most reach known le each near =
    (omega arith, omega (arith, le, each, mul-le-mul_left {m = reach} {n = len + 129} tables (omega (arith, near))))

-- one that does, and the next that keeps its dead ends
pub look_far : (tables len first most second old new looked : ℕ) → first ≤ most → IsLook 1 tables len most old new → IsLook 2 tables len second old new → looked ≤ first + second → IsLook 3 tables len looked old new
look_far tables len first most second old new looked le one two sum = (one.0, omega (arith, le, one.1, two.1, sum))

pub look_again : (tables len second old new looked : ℕ) → IsLook 2 tables len second old new → looked ≤ second → IsLook 3 tables len looked old new
look_again tables len second old new looked two le = (two.0, omega (arith, two.0, two.1, le))
