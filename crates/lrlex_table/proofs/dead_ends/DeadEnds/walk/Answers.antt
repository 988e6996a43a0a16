use Rattle.std.proofs.Common.{◌≡◌, ◌≢◌, ◌+◌, ◌-◌, ◌*◌, ◌<◌, false, length, take, drop, slice_index_or, get_or, refl, sym, ap, ◌∙◌, subst, inl, inr, arith}
use Rattle.std.proofs.lemmas.Bool.{cases_lt}
use Rattle.std.proofs.lemmas.List.{length-drop, drop-drop}
use Rattle.std.proofs.lemmas.Option.{slice_get_past}
use Rattle.lrlex_table.specs.Cell.{row_in, wins_at}
use Rattle.lrlex_table.specs.Table.{next_rows, next_of}
use Rattle.lrlex_table.specs.DeadEnds.{matches_after, IsVain}
use Rattle.lrlex_table.proofs.CellLemmas.{cell_leads, cell_marked, cell_within, leads_on, marked_row, unmarked_row}
use Rattle.lrlex_table.proofs.WalkLemmas.{Stands, stands_start, stands_marked, stands_unmarked, stands_dead}
use Rattle.lrlex_table.proofs.ReachLemmas.{walked_start, walked_step, reach_dead, reach_end}
use Rattle.lrlex_table.proofs.KnownLemmas.{Unknown, unknown_more, stop_by_itself, stop_at_end, stop_at_known}
use Rattle.lrlex_table.proofs.DeadEndLemmas.{bare_cell, row_next, vain_from, ends_in_vain}
use Rattle.lrlex_table.proofs.dead_ends.DeadEnds.walk.Goals as goal
use Rattle.lrlex_table.proofs.dead_ends.DeadEnds.walk.Goals.{then-marked, else-marked, then-here-eq0+in_default, else-here-eq0, In-Some}

-- what is known of the dead end that the walk came to
dead_end : (c : In-Some) → IsVain c.args.table.now c.bytes.row (drop c.bytes.at c.args.rest.now) c.in-Some.more
dead_end c =
    let text = c.args.self.now.text.now in
    let same : drop (c.args.place + c.bytes.at) text ≡ drop c.bytes.at c.args.rest.now = sym (ap (drop c.bytes.at) c.requires.rest ∙ drop-drop c.bytes.at c.args.place text) in
    subst (λ xs. IsVain c.args.table.now c.bytes.row xs c.in-Some.more) same (c.in-Some.ensures.vain c.args.table.now c.requires.table)

pub bytes-init : goal.bytes-init
bytes-init c =
    let t = c.args.table.now in (
      stands_start (next_rows t) t.wins.items t.start c.args.rest.now t.sound.4,
      t.sound.1,
      omega arith,
      walked_start t c.args.rest.now,
      λ i past le. absurd (omega arith),
      λ i before due. absurd (omega arith),
    )

pub overflow_add-walk : goal.overflow_add-walk
overflow_add-walk c = omega (arith, (dead_end c).1, length-drop c.bytes.at c.args.rest.now)

pub returns-in-Some-clause-vain : goal.returns-in-Some-clause-vain
returns-in-Some-clause-vain c =
    vain_from c.args.table.now c.args.rest.now c.bytes.len c.bytes.at c.bytes.row c.in-Some.more (dead_end c) c.bytes.invariant.3.row (omega (arith, c.bytes-test.true)) c.bytes.invariant.4

pub returns-in-Some-clause-ends : goal.returns-in-Some-clause-ends
returns-in-Some-clause-ends c =
    ends_in_vain c.args.table.now c.args.rest.now c.bytes.len c.bytes.last c.bytes.len (c.bytes.at + c.in-Some.more) (returns-in-Some-clause-vain c) (c.in-Some.more - 1) c.bytes.at c.bytes.row c.bytes.invariant.2
    (omega (arith, (dead_end c).0)) c.bytes.invariant.3.row c.bytes.invariant.0

pub returns-then-dead-clause-ends : goal.returns-then-dead-clause-ends
returns-then-dead-clause-ends c =
    let t = c.args.table.now in
    let hay = c.args.rest.now in
    let j = c.bytes.at in
    let r = c.bytes.row in
    let cell = c.cell_at-cell.result in
    let read = c.cell_at-cell.ensures ∙ ap (λ xs. slice_index_or xs (r * 256 + get_or hay j 0) 0) c.deref.ensures.value in
    stands_dead (next_rows t) t.wins.items t.start hay j r c.bytes.len c.bytes.last (row_in cell) c.bytes.invariant.0 (omega (arith, c.bytes-test.true)) (cell_leads t hay j r cell c.bytes-test.true read) (ap row_in c.if-dead.true)

pub returns-then-dead-clause-vain : goal.returns-then-dead-clause-vain
returns-then-dead-clause-vain c =
    let t = c.args.table.now in
    let hay = c.args.rest.now in
    let j = c.bytes.at in
    let r = c.bytes.row in
    let cell = c.cell_at-cell.result in
    let read = c.cell_at-cell.ensures ∙ ap (λ xs. slice_index_or xs (r * 256 + get_or hay j 0) 0) c.deref.ensures.value in (
      omega (arith, c.bytes-test.true),
      λ i past before. c.bytes.invariant.4 i past (omega arith),
      λ le. row_next t hay j r c.bytes.invariant.3.row c.bytes-test.true ∙ sym (cell_leads t hay j r cell c.bytes-test.true read) ∙ ap row_in c.if-dead.true,
    )

pub returns-in-Some-clause-looked : goal.returns-in-Some-clause-looked
returns-in-Some-clause-looked c =
    stop_at_known c.args.self.now.known c.args.table.now c.args.list c.args.part c.args.place c.args.rest.now c.bytes.at c.bytes.row c.in-Some.more (omega (arith, c.bytes-test.true)) c.bytes.invariant.5
    c.bytes.invariant.3.row (sym c.in-Some.ensures.known)

pub returns-then-dead-clause-looked : goal.returns-then-dead-clause-looked
returns-then-dead-clause-looked c =
    let t = c.args.table.now in
    let hay = c.args.rest.now in
    let j = c.bytes.at in
    let r = c.bytes.row in
    let cell = c.cell_at-cell.result in
    let read = c.cell_at-cell.ensures ∙ ap (λ xs. slice_index_or xs (r * 256 + get_or hay j 0) 0) c.deref.ensures.value in
    let known = c.args.self.now.known in
    stop_by_itself known t c.args.list c.args.part c.args.place hay (j + 1) (reach_dead t hay j r (row_in cell) c.bytes.invariant.3 c.bytes-test.true (cell_leads t hay j r cell c.bytes-test.true read) (ap row_in c.if-dead.true))
    (unknown_more known t c.args.list c.args.part c.args.place hay j r c.bytes.invariant.5 c.bytes.invariant.3.row (elim c.if-here-eq0.branch [
      | then-here-eq0+in_default w ↦ λ due. sym w.more_at.ensures.known ∙ w.in_default.is
      | else-here-eq0 w ↦ λ due. absurd (w.if-here-eq0.false due)
    ]))

pub returns-clause-looked : goal.returns-clause-looked
returns-clause-looked c =
    let hay = c.args.rest.now in
    let all : c.bytes.at ≡ length hay = omega arith in
    let known = c.args.self.now.known in
    let t = c.args.table.now in
    stop_at_end known t c.args.list c.args.part c.args.place hay (length hay + 1) refl (reach_end t hay c.bytes.at c.bytes.row c.bytes.invariant.3 all)
    (subst (Unknown known t c.args.list c.args.part c.args.place hay) all c.bytes.invariant.5)

pub bytes-preserved : goal.bytes-preserved
bytes-preserved c =
    let t = c.args.table.now in
    let hay = c.args.rest.now in
    let j = c.bytes.at in
    let r = c.bytes.row in
    let cell = c.cell_at-cell.result in
    let i = r * 256 + get_or hay j 0 in
    let lt = c.bytes-test.true in
    let read = c.cell_at-cell.ensures ∙ ap (λ xs. slice_index_or xs i 0) c.deref.ensures.value in
    let goes = cell_leads t hay j r cell lt read in
    let mark = cell_marked t cell i read in
    let to = c.row_of-row.result in
    let is = c.row_of-row.ensures in
    let at = Stands (next_rows t) t.wins.items t.start hay (j + 1) in
    let living : to ≢ 0 = λ zero. leads_on t.wins.items cell mark t.sound.4 c.if-dead.false (sym is ∙ zero) in (
      elim c.if-marked.branch [
        | then-marked w ↦
            let won = marked_row t.wins.items cell mark w.if-marked.true in
            subst (λ n. at to n c.if-marked.last) (sym w.len-is)
            (subst (λ x. at to (j + 1) x) (sym w.last-is)
            (subst (λ q. at q (j + 1) q) (sym is) (stands_marked (next_rows t) t.wins.items t.start hay j r c.bytes.len c.bytes.last (row_in cell) c.bytes.invariant.0 (omega (arith, lt)) goes won.0 won.1)))
        | else-marked w ↦
            subst (λ n. at to n c.if-marked.last) (sym w.len-is)
            (subst (λ x. at to c.bytes.len x) (sym w.last-is)
            (subst (λ q. at q c.bytes.len c.bytes.last) (sym is) (stands_unmarked (next_rows t) t.wins.items t.start hay j r c.bytes.len c.bytes.last (row_in cell) c.bytes.invariant.0 (omega (arith, lt)) goes (unmarked_row t.wins.items cell mark w.if-marked.false))))
      ],
      subst (λ q. q < length t.wins.items) (sym is) (cell_within t cell i read),
      elim c.if-marked.branch [
        | then-marked w ↦ omega (arith, w.len-is)
        | else-marked w ↦ omega (arith, w.len-is, c.bytes.invariant.2)
      ],
      walked_step t hay j r to c.bytes.invariant.3 lt (is ∙ goes) living,
      elim c.if-marked.branch [
        | then-marked w ↦ λ k past le. absurd (omega (arith, w.len-is))
        | else-marked w ↦ λ k past le. elim (cases_lt j k) [
          | inl last ↦
              let same : j + 1 ≡ k = omega arith in
              subst (λ n. matches_after t t.start (take n hay) ≡ false) same
              (ap (wins_at t.wins.items) (row_next t hay j r c.bytes.invariant.3.row lt ∙ sym goes) ∙ bare_cell t.wins.items cell mark w.if-marked.false)
          | inr before ↦ c.bytes.invariant.4 k (omega (arith, w.len-is)) before
        ]
      ],
      unknown_more c.args.self.now.known t c.args.list c.args.part c.args.place hay j r c.bytes.invariant.5 c.bytes.invariant.3.row (elim c.if-here-eq0.branch [
        | then-here-eq0+in_default w ↦ λ due. sym w.more_at.ensures.known ∙ w.in_default.is
        | else-here-eq0 w ↦ λ due. absurd (w.if-here-eq0.false due)
      ]),
    )

pub returns-clause-ends : goal.returns-clause-ends
returns-clause-ends c =
    let t = c.args.table.now in
    let hay = c.args.rest.now in
    let r = c.bytes.row in
    let all : c.bytes.at ≡ length hay = omega arith in
    let by = subst (λ j. Stands (next_rows t) t.wins.items t.start hay j r c.bytes.len c.bytes.last) all c.bytes.invariant.0 in
    stands_dead (next_rows t) t.wins.items t.start hay (length hay) r c.bytes.len c.bytes.last 0 by (omega arith) (ap (next_of (next_rows t) r) (sym (slice_get_past hay (length hay) (omega arith)))) refl
