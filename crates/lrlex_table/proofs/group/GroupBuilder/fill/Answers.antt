use Rattle.std.proofs.Common.{◌≡◌, ℕ, ◌+◌, ◌*◌, ◌-◌, ◌<◌, ◌≤◌, ◌++◌, [], length, sym, ap, ◌∙◌, subst, arith, replicate, vec_len}
use Rattle.std.proofs.lemmas.List.{get_or-map, length-map, take_all}
use Rattle.lrlex_table.specs.Group.{nexts_in, wins_in, start_in, first_among, step_all, live_rows_of, live_rows_at, ArePastStart, HasLiveRows, IsGroupCellOf, IsGroupingOf}
use Rattle.lrlex_table.proofs.GroupGrowth.{grouping_starts, grouping_grows, cell_of_live_rows, grouping_run}
use Rattle.lrlex_table.proofs.group.GroupBuilder.fill.Goals as goal

pub bytes-init : goal.bytes-init
bytes-init c =
    let cache = c.args.cache.now in
    let places = c.args.places.now in
    let built = c.args.self.now in
    let rows = live_rows_of built.rows in
    let live_rows = c.in_ok-live_rows.live_rows.items in
    let lt : c.args.row < length built.rows.items = omega (arith, c.requires.row, built.rows.ok.0) in
    let room : c.args.row < length rows = omega (arith, lt, length-map built.rows.items (λ v. v.items)) in
    let are : live_rows_at rows c.args.row ≡ live_rows =
    get_or-map (λ v. v.items) built.rows.items c.args.row c.index.result.now [] lt
    ∙ ap (λ v. v.items) (sym c.index.ensures) ∙ sym c.as_slice.ensures.value ∙ sym c.in_ok-live_rows.ensures.items in
    let win = c.first_among-win.ensures ∙ ap (first_among (wins_in cache places)) c.deref.ensures.value in (
      c.requires.filled.tabled,
      subst (λ ws. IsGroupingOf cache places rows built.next.items ws c.args.row 0 live_rows) (sym c.in_ok-push.ensures.items)
          (grouping_starts (length places) (nexts_in cache places) (wins_in cache places) (start_in cache places) rows built.next.items built.wins.items c.args.row live_rows c.first_among-win.result
          c.requires.filled.built room (omega (arith, c.requires.filled.wins, built.wins.ok.0)) (omega (arith, c.requires.filled.cells, built.next.ok.0)) are win),
      omega arith,
    )

pub bytes-preserved : goal.bytes-preserved
bytes-preserved c =
    let cache = c.args.cache.now in
    let places = c.args.places.now in
    let na = nexts_in cache places in
    let old = c.bytes.self in
    let new = c.intern.new.self in
    let rows = live_rows_of new.rows in
    let byte = c.bytes.byte in
    let end = c.run_end-end.result in
    let v = c.in-Some.v in
    let live_rows = c.in_ok-live_rows.live_rows.items in
    let to = c.step_all.new.next.items in
    let inv = c.bytes.invariant in
    let has : HasLiveRows (live_rows_of old.rows) rows to v = rw (c.in-Some.is, c.deref-in-bytes-3.ensures.value) at c.in_ok-found.ensures.row in
    let steps : to ≡ step_all na live_rows byte =
    c.in_ok-step_all.ensures.next c.if-not-branch.false ∙ ap (λ ls. step_all na ls byte) c.deref-in-bytes-2.ensures.value in
    let past : ArePastStart (start_in cache places) to = c.in_ok-step_all.ensures.past c.if-not-branch.false in
    let grown = grouping_grows (length places) na (wins_in cache places) (start_in cache places) (live_rows_of old.rows) rows old.next.items old.wins.items c.args.row byte live_rows to v inv.1 steps past has in
    let same : (i : ℕ) → byte ≤ i → i < end → step_all na live_rows i ≡ step_all na live_rows byte =
    λ i ge lt.
    ap (λ ls. step_all na ls i) (sym c.deref-in-bytes.ensures.value) ∙ c.run_end-end.ensures.same i ge lt
    ∙ ap (λ ls. step_all na ls byte) c.deref-in-bytes.ensures.value in
    let cells : (i : ℕ) → byte ≤ i → i < end → IsGroupCellOf na rows live_rows i v =
    λ i ge lt. cell_of_live_rows (length places) na (wins_in cache places) (start_in cache places) (live_rows_of old.rows) rows live_rows to i v has (steps ∙ sym (same i ge lt)) in
    let more = end - byte in
    let run = c.run_end-end.ensures in
    let at : byte + more ≡ end = omega (arith, run.past) in
    let pushed = grouping_run (length places) na (wins_in cache places) (start_in cache places) rows old.next.items old.wins.items c.args.row byte live_rows v more grown
    (λ i ge lt. cells i ge (omega arith)) (omega (arith, run.within)) in
    let kept : new.next.items ≡ old.next.items = ap (λ xs. xs.items) c.intern.ensures.next in
    let long : vec_len new.next ≡ c.args.row * 256 + byte = omega (arith, ap (λ xs. vec_len xs) c.intern.ensures.next, inv.1.at, old.next.ok.0) in
    let nexts = c.in_ok-resize.ensures.items
    ∙ ap (λ xs. xs ++ replicate (c.args.row * 256 + end - vec_len new.next) v) (take_all (c.args.row * 256 + end) new.next.items (omega (arith, new.next.ok.0, run.past)) ∙ kept)
    ∙ ap (λ n. old.next.items ++ replicate n v) (omega (arith, run.past)) in (
      inv.0,
      subst (λ i. IsGroupingOf cache places rows c.resize.new.self.items new.wins.items c.args.row i live_rows) at
          (subst (λ xs. IsGroupingOf cache places rows xs new.wins.items c.args.row (byte + more) live_rows) (sym nexts)
          (subst (λ ws. IsGroupingOf cache places rows (old.next.items ++ replicate more v) ws c.args.row (byte + more) live_rows) (sym (ap (λ ws. ws.items) c.intern.ensures.wins)) pushed)),
      run.within,
    )
