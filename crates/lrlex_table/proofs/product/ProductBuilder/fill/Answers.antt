use Rattle.std.proofs.Common.{◌≡◌, ℕ, ◌+◌, ◌*◌, ◌-◌, ◌<◌, ◌≤◌, ◌++◌, None, refl, sym, ap, ◌∙◌, subst, arith, replicate, vec_len, slice_index_or}
use Rattle.std.proofs.lemmas.List.{get_or_read, take_all}
use Rattle.lrlex_table.specs.Table.{next_rows}
use Rattle.lrlex_table.specs.ProductBuilder.{first_win, HasPair, IsPairCellOf, IsPairingOf}
use Rattle.lrlex_table.proofs.CellLemmas.{same_row}
use Rattle.lrlex_table.proofs.ProductLemmas.{pairing_starts, pairing_grows, cell_of_pair, pairing_run}
use Rattle.lrlex_table.proofs.product.ProductBuilder.fill.Goals as goal

pub bytes-init : goal.bytes-init
bytes-init c =
    let a = c.args.a.now in
    let b = c.args.b.now in
    let built = c.args.self.now in
    let p = c.index.result.now in
    let rows = built.rows.items in
    let win = c.in-Some.ensures ∙ ap (λ o. first_win c.args.shift o c.win_of-2.result) c.win_of.ensures ∙ ap (first_win c.args.shift (slice_index_or a.wins.items p.0 None)) c.win_of-2.ensures in (
      refl,
      subst (λ ws. IsPairingOf a b c.args.shift rows built.next.items ws c.args.row 0 (p.0, p.1)) (sym c.in_ok-push.ensures.items)
          (pairing_starts (next_rows a) (next_rows b) a.wins.items b.wins.items a.start b.start c.args.shift rows built.next.items built.wins.items c.args.row (p.0, p.1) c.in-Some.win
          c.requires.filled.built (omega (arith, c.requires.row, built.rows.ok.0)) (omega (arith, c.requires.filled.wins, built.wins.ok.0)) (omega (arith, c.requires.filled.cells, built.next.ok.0))
          (sym (get_or_read rows c.args.row p (omega (arith, c.requires.row, built.rows.ok.0)) c.index.ensures (0, 0))) win),
      omega arith,
    )

pub bytes-preserved : goal.bytes-preserved
bytes-preserved c =
    let a = c.args.a.now in
    let b = c.args.b.now in
    let m = c.args.shift in
    let p = c.index.result.now in
    let old = c.bytes.self in
    let new = c.intern.new.self in
    let byte = c.bytes.byte in
    let end = c.run_end-end.result in
    let x = c.next_of-to.result in
    let y = c.next_of-also.result in
    let v = c.in-Some-found.v in
    let inv = c.bytes.invariant in
    let firsts = inv.0 in
    let has = rw c.in-Some-found.is at c.in_ok-found.ensures.row in
    let here : HasPair a.start b.start old.rows.items new.rows.items x y v =
    subst (λ s. HasPair s b.start old.rows.items new.rows.items x y v) (ap (λ (q : ℕ × ℕ). q.0) firsts ∙ c.requires.filled.first.0)
    (subst (λ s. HasPair old.first.0 s old.rows.items new.rows.items x y v) (ap (λ (q : ℕ × ℕ). q.1) firsts ∙ c.requires.filled.first.1) has) in
    let grown = pairing_grows (next_rows a) (next_rows b) a.wins.items b.wins.items a.start b.start m old.rows.items new.rows.items old.next.items old.wins.items c.args.row byte (p.0, p.1) x y v inv.1 here in
    let run = c.run_end-end.ensures in
    let cells : (i : ℕ) → byte ≤ i → i < end → IsPairCellOf (next_rows a) (next_rows b) new.rows.items (p.0, p.1) i v =
    λ i ge lt. cell_of_pair (next_rows a) (next_rows b) a.wins.items b.wins.items a.start b.start m old.rows.items new.rows.items (p.0, p.1) i x y v here
    (c.next_of-to.ensures ∙ same_row a.cells.items _ _ (run.row i ge lt)) (c.next_of-also.ensures ∙ same_row b.cells.items _ _ (run.other i ge lt)) in
    let more = end - byte in
    let at : byte + more ≡ end = omega (arith, run.past) in
    let pushed = pairing_run (next_rows a) (next_rows b) a.wins.items b.wins.items a.start b.start m new.rows.items old.next.items old.wins.items c.args.row byte (p.0, p.1) v more grown
    (λ i ge lt. cells i ge (omega arith)) (omega (arith, run.within)) in
    let kept : c.intern.new.self.next.items ≡ old.next.items = ap (λ xs. xs.items) c.intern.ensures.next in
    let long : vec_len new.next ≡ c.args.row * 256 + byte = omega (arith, ap (λ xs. vec_len xs) c.intern.ensures.next, inv.1.at, old.next.ok.0) in
    let nexts = c.in_ok-resize.ensures.items
    ∙ ap (λ xs. xs ++ replicate (c.args.row * 256 + end - vec_len new.next) v) (take_all (c.args.row * 256 + end) new.next.items (omega (arith, new.next.ok.0, run.past)) ∙ kept)
    ∙ ap (λ n. old.next.items ++ replicate n v) (omega (arith, run.past)) in (
      c.intern.ensures.first ∙ firsts,
      subst (λ i. IsPairingOf a b m new.rows.items c.resize.new.self.items new.wins.items c.args.row i (p.0, p.1)) at
          (subst (λ xs. IsPairingOf a b m new.rows.items xs new.wins.items c.args.row (byte + more) (p.0, p.1)) (sym nexts)
          (subst (λ ws. IsPairingOf a b m new.rows.items (old.next.items ++ replicate more v) ws c.args.row (byte + more) (p.0, p.1)) (sym (ap (λ ws. ws.items) c.intern.ensures.wins)) pushed)),
      run.within,
    )
