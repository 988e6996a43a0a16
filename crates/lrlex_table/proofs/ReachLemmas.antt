-- How far a walk through a table goes.
use Rattle.std.proofs.Common.{◌≡◌, ◌≢◌, zero, suc, ℕ, ◌+◌, ◌<◌, ◌≤◌, List, [], ◌∷◌, ◌++◌, length, take, get_or, Some, slice_get, refl, sym, ap, ◌∙◌, subst, inl, inr, arith}
use Rattle.std.proofs.lemmas.Bool.{cases_lt}
use Rattle.std.proofs.lemmas.Option.{slice_get-get_or}
use Rattle.std.proofs.lemmas.List.{take_more}
use Rattle.lrlex_table.specs.Table.{next_rows, next_of}
use Rattle.lrlex_table.specs.Reach.{row_after, IsReach}
use Rattle.lrlex_table.specs.declared.table.Table.{Table}

pub row_after-push : (next : List ℕ) (r : ℕ) (xs : List ℕ) (b : ℕ) → row_after next r (xs ++ b ∷ []) ≡ next_of next (row_after next r xs) (Some b)
row_after-push next r [] b = refl
row_after-push next r (x ∷ xs) b = row_after-push next (next_of next r (Some x)) xs b

-- after the first j bytes the walk is in this row, and no row before was dead
pub record Walked (t : Table) (text : List ℕ) (j r : ℕ) : Type 0 where
  pub row : r ≡ row_after (next_rows t) t.start (take j text)
  pub alive : (i : ℕ) → 0 < i → i ≤ j → row_after (next_rows t) t.start (take i text) ≢ 0

module _ (t : Table) (text : List ℕ) where
  pub walked_start : Walked t text 0 t.start
  walked_start = record { row = refl; alive = λ i some none. absurd (omega arith) }

  pub next_walked : (j r to : ℕ) → Walked t text j r → j < length text → to ≡ next_of (next_rows t) r (slice_get text j) → to ≡ row_after (next_rows t) t.start (take (j + 1) text)
  next_walked j r to w lt goes =
      goes ∙ ap (next_of (next_rows t) r) (slice_get-get_or text j 0 lt) ∙ ap (λ q. next_of (next_rows t) q (Some (get_or text j 0))) w.row
      ∙ sym (row_after-push (next_rows t) t.start (take j text) (get_or text j 0)) ∙ ap (row_after (next_rows t) t.start) (sym (take_more text j 0 lt))

  pub walked_step : (j r to : ℕ) → Walked t text j r → j < length text → to ≡ next_of (next_rows t) r (slice_get text j) → to ≢ 0 → Walked t text (j + 1) to
  walked_step j r to w lt goes living =
      let here = next_walked j r to w lt goes in
      record {
        row = here;
        alive = λ i some le. elim (cases_lt j i) [
          | inl last ↦
              let same : j + 1 ≡ i = omega arith in
              subst (λ n. row_after (next_rows t) t.start (take n text) ≢ 0) same (λ dead. living (here ∙ dead))
          | inr before ↦ w.alive i some before
        ];
      }

  -- no row after a byte is dead
  pub living : (j r : ℕ) → t.start ≢ 0 → Walked t text j r → r ≢ 0
  living zero r some w dead = some (sym w.row ∙ dead)
  living (suc j) r some w dead = w.alive (suc j) (omega arith) (omega arith) (sym w.row ∙ dead)

  pub reach_dead : (j r to : ℕ) → Walked t text j r → j < length text → to ≡ next_of (next_rows t) r (slice_get text j) → to ≡ 0 → IsReach t text (j + 1)
  reach_dead j r to w lt goes dead = record {
    within = omega (arith, lt);
    needed = λ i some less. w.alive i some (omega arith);
    enough = λ le. sym (next_walked j r to w lt goes) ∙ dead;
  }

  pub reach_end : (j r : ℕ) → Walked t text j r → j ≡ length text → IsReach t text (length text + 1)
  reach_end j r w all = record {
    within = omega arith;
    needed = λ i some less. w.alive i some (omega (arith, all));
    enough = λ le. absurd (omega arith);
  }
