-- Walks that go on in vain.
use Rattle.std.proofs.Common.{◌≡◌, zero, suc, ℕ, ◌+◌, ◌-◌, ◌<◌, ◌≤◌, false, List, [], ◌∷◌, ◌++◌, length, take, drop, get_or, Option, Some, None, is_some, option_map, option_and_then, slice_get, slice_index_or, refl, sym, ap, ◌∙◌, subst, inl, inr, arith}
use Rattle.std.proofs.lemmas.Bool.{cases_lt}
use Rattle.std.proofs.lemmas.Option.{slice_get-get_or, slice_get_past}
use Rattle.std.proofs.lemmas.List.{length-drop, take_more}
use Rattle.std.proofs.Math.Seq.{take-add}
use Rattle.lrlex_table.specs.Cell.{row_in, is_marked, wins_at}
use Rattle.lrlex_table.specs.Table.{next_rows, next_of, EndsInRow}
use Rattle.lrlex_table.specs.Reach.{row_after}
use Rattle.lrlex_table.specs.DeadEnds.{matches_after, table_at, IsVain, IsVainPast, IsDeadEndIn}
use Rattle.lrlex_table.specs.declared.table.Table.{Table}
use Rattle.lrlex_table.specs.declared.merged_tables.Part.{Part}
use Rattle.lrlex_table.specs.declared.tables.Tables.{Tables}
use Rattle.lrlex_table.specs.declared.dead_ends.DeadEnd.{DeadEnd}
use Rattle.lrlex_table.proofs.CellLemmas.{none_of, unmarked_row}
use Rattle.lrlex_table.proofs.WalkLemmas.{Stands, stands_unmarked, stands_dead}
use Rattle.lrlex_table.proofs.ReachLemmas.{row_after-push}

pub row_after-append : (next : List ℕ) (r : ℕ) (xs ys : List ℕ) → row_after next r (xs ++ ys) ≡ row_after next (row_after next r xs) ys
row_after-append next r [] ys = refl
row_after-append next r (x ∷ xs) ys = row_after-append next (next_of next r (Some x)) xs ys

pub bare_cell : (wins : List (Option ℕ)) (cell : ℕ) → is_marked cell ≡ wins_at wins (row_in cell) → cell < 32768 → wins_at wins (row_in cell) ≡ false
bare_cell wins cell mark low = ap is_some (unmarked_row wins cell mark low)

module _ (t : Table) (text : List ℕ) where
  pub row_farther : (j i r : ℕ) → r ≡ row_after (next_rows t) t.start (take j text) →
      row_after (next_rows t) r (take i (drop j text)) ≡ row_after (next_rows t) t.start (take (j + i) text)
  row_farther j i r is =
      ap (λ q. row_after (next_rows t) q (take i (drop j text))) is ∙ sym (row_after-append (next_rows t) t.start (take j text) (take i (drop j text)))
      ∙ ap (row_after (next_rows t) t.start) (sym (take-add j i text))

  pub row_next : (j r : ℕ) → r ≡ row_after (next_rows t) t.start (take j text) → j < length text →
      row_after (next_rows t) t.start (take (j + 1) text) ≡ next_of (next_rows t) r (slice_get text j)
  row_next j r is lt =
      ap (row_after (next_rows t) t.start) (take_more text j 0 lt) ∙ row_after-push (next_rows t) t.start (take j text) (get_or text j 0)
      ∙ ap (λ q. next_of (next_rows t) q (Some (get_or text j 0))) (sym is) ∙ ap (next_of (next_rows t) r) (sym (slice_get-get_or text j 0 lt))

  pub row_more : (j r : ℕ) → r ≡ row_after (next_rows t) t.start (take j text) → j < length text →
      next_of (next_rows t) r (Some (get_or text j 0)) ≡ row_after (next_rows t) t.start (take (j + 1) text)
  row_more j r is lt = ap (next_of (next_rows t) r) (sym (slice_get-get_or text j 0 lt)) ∙ sym (row_next j r is lt)

  -- a walk that goes on in vain has dead ends after its match
  pub vain_behind : (len reach j r : ℕ) → IsVainPast t text len reach → len < j → j < reach → r ≡ row_after (next_rows t) t.start (take j text) → IsVain t r (drop j text) (reach - j)
  vain_behind len reach j r vain past before is =
      let rest = length-drop j text in (
        omega arith,
        omega (arith, rest, vain.0),
        λ i lt. ap (λ q. matches_after t q []) (row_farther j i r is) ∙ vain.1 (j + i) (omega arith) (omega arith),
        λ le.
            let same : j + (reach - j) ≡ reach = omega arith in
            row_farther j (reach - j) r is ∙ ap (λ n. row_after (next_rows t) t.start (take n text)) same ∙ vain.2 (omega (arith, rest)),
      )

  -- a walk that comes to a dead end goes on in vain
  pub vain_from : (len j r more : ℕ) → IsVain t r (drop j text) more → r ≡ row_after (next_rows t) t.start (take j text) → j ≤ length text →
      ((i : ℕ) → len < i → i ≤ j → matches_after t t.start (take i text) ≡ false) → IsVainPast t text len (j + more)
  vain_from len j r more vain is within bare =
      let rest = length-drop j text in (
        omega (arith, rest, vain.1),
        λ i past before. elim (cases_lt j i) [
          | inl farther ↦
              let same : j + (i - j) ≡ i = omega arith in
              ap (λ n. matches_after t t.start (take n text)) (sym same) ∙ ap (λ q. matches_after t q []) (sym (row_farther j (i - j) r is)) ∙ vain.2 (i - j) (omega arith)
          | inr here ↦ bare i past here
        ],
        λ le. sym (row_farther j more r is) ∙ vain.3 (omega (arith, rest)),
      )

  -- where no pattern matches any more, the longest match is the last so far
  pub ends_in_vain : (n last len reach : ℕ) → IsVainPast t text len reach → (d j r : ℕ) → len ≤ j → j + suc d ≡ reach → r ≡ row_after (next_rows t) t.start (take j text) →
      Stands (next_rows t) t.wins.items t.start text j r n last → EndsInRow (next_rows t) t.wins.items t.start text reach n last
  ends_in_vain n last len reach vain zero j r past far is s =
      let here : j + 1 ≡ reach = omega arith in
      subst (λ m. EndsInRow (next_rows t) t.wins.items t.start text m n last) here (elim (cases_lt j (length text)) [
        | inl lt ↦
            stands_dead (next_rows t) t.wins.items t.start text j r n last (row_after (next_rows t) t.start (take (j + 1) text)) s (omega arith) (row_next j r is lt)
            (ap (λ m. row_after (next_rows t) t.start (take m text)) here ∙ vain.2 (omega arith))
        | inr ge ↦
            stands_dead (next_rows t) t.wins.items t.start text j r n last 0 s (omega (arith, vain.0)) (ap (next_of (next_rows t) r) (sym (slice_get_past text j ge))) refl
      ])
  ends_in_vain n last len reach vain (suc d) j r past far is s =
      let lt : j < length text = omega (arith, vain.0) in
      let to = row_after (next_rows t) t.start (take (j + 1) text) in
      ends_in_vain n last len reach vain d (j + 1) to (omega arith) (omega arith) refl
      (stands_unmarked (next_rows t) t.wins.items t.start text j r n last to s (omega arith) (row_next j r is lt)
      (none_of (slice_index_or t.wins.items to None) (vain.1 (j + 1) (omega arith) (omega arith))))

-- the dead end that was looked for
pub same_end : (lists : List Tables) (text : List ℕ) (e : DeadEnd) (list part row place : ℕ) → e.list ≡ list → e.part ≡ part → e.row ≡ row → e.place ≡ place → IsDeadEndIn lists text e →
    (t : Table) → table_at lists list part ≡ Some t → IsVain t row (drop place text) e.more
same_end lists text e list part row place l p r q is t at =
    subst (λ x. IsVain t x (drop place text) e.more) r
    (subst (λ x. IsVain t e.row (drop x text) e.more) q (is t (ap (λ x. table_at lists x e.part) l ∙ ap (table_at lists list) p ∙ at)))

-- the table of a part of a list
pub table_there : (lists : List Tables) (list at : ℕ) (ts : Tables) (p : Part) → slice_get lists list ≡ Some ts → slice_get ts.parts.items at ≡ Some p → table_at lists list at ≡ Some p.table
table_there lists list at ts p here there =
    ap (option_and_then (λ t. option_map (λ q. q.table) (slice_get t.parts.items at))) here ∙ ap (option_map (λ q. q.table)) there
