-- Linear work.
use Rattle.std.proofs.Common.{◌≡◌, ℕ, ◌+◌, ◌-◌, ◌*◌, ◌/◌, ◌≤◌, max, true, false, ap, ◌∙◌, arith}
use Rattle.std.specs.HashMap.{hash_map_len}
use Rattle.std.proofs.Math.Nat.{mul-add, mul-le-mul_left, mul-le-mul_right, mul_left_comm}
use Rattle.lrlex_table.specs.Linear.{HasWorkedTo, most_cells}
use Rattle.lrlex_table.specs.Looking.{HasSameEnds}
use Rattle.lrlex_table.specs.Work.{IsLook}
use Rattle.lrlex_table.specs.declared.dead_ends.DeadEnds.{DeadEnds}
use Rattle.lrlex_table.proofs.KnownLemmas.{not_before}

-- what is so up to a place is so up to a later one
pub linear_later : (tables from place later : ℕ) (e : DeadEnds) → HasWorkedTo tables from place e → place ≤ later → HasWorkedTo tables from later e
linear_later tables from place later e is le = record {
  onward = omega (arith, is.onward, le);
  walks = λ kept. omega (arith, is.walks kept, mul-le-mul_left {m = place - from} {n = later - from} tables (omega (arith, le)));
  ahead = is.ahead;
  near = omega (arith, is.near, le);
}

-- a look for so many bytes is one for each of them, with 390 cells for each table
look_bytes : (tables parts len : ℕ) → parts ≤ tables → 3 * (parts * (len + 129)) ≤ 390 * (tables * max 1 len)
look_bytes tables parts len le =
    let most : tables * (len + 129) ≤ tables * (130 * max 1 len) = mul-le-mul_left tables (omega arith) in
    omega (arith, mul-le-mul_right (len + 129) le, most, mul_left_comm tables 130 (max 1 len))

-- the same look, where nothing changed before it
pub look_from : (parts len : ℕ) (old before after : DeadEnds) → HasSameEnds old before → IsLook 3 parts len (after.looked - old.looked) (hash_map_len old.known) (hash_map_len after.known) →
    IsLook 3 parts len (after.looked - before.looked) (hash_map_len before.known) (hash_map_len after.known)
look_from parts len old before after same look =
    let known : hash_map_len before.known ≡ hash_map_len old.known = ap (λ m. hash_map_len m) same.known in
    (omega (arith, look.0, known), omega (arith, look.1, known, same.looked))

-- a look for a winner at the place, behind which the next is
pub linear_after : (tables parts from place len : ℕ) (old new : DeadEnds) → HasWorkedTo tables from place old → parts ≤ tables → new.ahead ≡ old.ahead → (old.forgot ≡ true → new.forgot ≡ true) →
    (new.forgot ≡ false → IsLook 3 parts len (new.looked - old.looked) (hash_map_len old.known) (hash_map_len new.known)) → HasWorkedTo tables from (place + max 1 len) new
linear_after tables parts from place len old new is le same kept look = record {
  onward = omega (arith, is.onward);
  walks = λ now.
      let one = look now in
      let parted : tables * (place + max 1 len - from) ≡ tables * (place - from) + tables * max 1 len =
      ap (λ n. tables * n) (omega (arith, is.onward)) ∙ mul-add tables (place - from) (max 1 len) in
      omega (arith, is.walks (not_before _ _ kept now), one.0, one.1, parted, look_bytes tables parts len le);
  ahead = omega (arith, is.ahead, ap (λ a. a.cells) same, ap (λ a. a.limit) same);
  near = omega (arith, is.near, ap (λ a. a.limit) same);
}

-- few dead ends make few cells
pub few_cells : (tables from place : ℕ) (e : DeadEnds) → HasWorkedTo tables from place e → (rows length n : ℕ) → e.forgot ≡ false → hash_map_len e.known ≤ rows * (length / 64 + 1) → n ≤ e.looked + e.ahead.cells →
    n ≤ most_cells tables (place - from) rows length
few_cells tables from place e is rows length n kept few le = omega (arith, is.walks kept, is.ahead, is.near, is.onward, few, le)
