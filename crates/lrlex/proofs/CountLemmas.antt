-- How many searches a run makes.
use Rattle.std.proofs.Common.{ℕ, ◌+◌, ◌*◌, ◌≤◌, Bool, true, false, cond, List, [], ◌∷◌, length, arith, nat_lt}
use Rattle.std.specs.List.{sum_by}
use Rattle.std.proofs.lemmas.List.Sums.{count_by-le-length, sum_by-cons}
use Rattle.lrlex_rules.specs.Definition.{Definition}
use Rattle.lrlex_rules.specs.Active.{is_active, active_count}
use Rattle.lrlex_rules.specs.Tiling.{top, stack_past, boundaries, asked_at}
use Rattle.lrlex_rules.specs.Tiling.{Tile}

pub active_count-le : (d : Definition) (q : ℕ) → active_count d q ≤ length d.rules
unfolding active_count
active_count-le d q = count_by-le-length (is_active d.states q) d.rules

pub asked_at-le : (d : Definition) (end : ℕ) (b : ℕ × List ℕ) → asked_at d end b ≤ length d.rules
asked_at-le d end b = at_most (nat_lt b.0 end) (active_count d (top b.1)) (length d.rules) (active_count-le d (top b.1)) where
  at_most : (t : Bool) (n m : ℕ) → n ≤ m → cond t n 0 ≤ m
  at_most true n m h = h
  at_most false n m h = omega arith

-- no more than one for each rule, at each boundary
pub asked_over-le : (d : Definition) (end place : ℕ) (stack : List ℕ) (ts : List Tile) →
    sum_by (asked_at d end) (boundaries d place stack ts) ≤ (length ts + 1) * length d.rules
asked_over-le d end place stack [] =
    omega (arith, sum_by-cons (asked_at d end) (place, stack) [], asked_at-le d end (place, stack))
asked_over-le d end place stack (t ∷ ts) =
    omega (
      arith,
      sum_by-cons (asked_at d end) (place, stack) (boundaries d (place + t.len) (stack_past d stack t) ts),
      asked_at-le d end (place, stack),
      asked_over-le d end (place + t.len) (stack_past d stack t) ts,
    )
