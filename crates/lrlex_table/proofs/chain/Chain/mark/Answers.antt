use Rattle.std.proofs.Common.{◌≡◌, ◌+◌, ◌<◌, length, get_or, set, refl, sym, ap, ◌∙◌, subst, inl, inr, arith}
use Rattle.std.proofs.lemmas.Bool.{cases_lt}
use Rattle.std.proofs.lemmas.List.{length-set}
use Rattle.lrlex_table.specs.Chain.{row_behind, GoesTo}
use Rattle.lrlex_table.proofs.ChainLemmas.{IsLane, passes, on_way_first}
use Rattle.lrlex_table.proofs.chain.Chain.mark.Goals as goal

pub bytes-init : goal.bytes-init
bytes-init c = record {
  row = omega (arith, c.requires.row, c.args.self.now.bases.ok.0);
  count = omega arith;
  room = refl;
  lane = λ t l is. (λ k lt. absurd (omega arith), on_way_first t l c.args.self.now c.args.text.now c.args.from 0 c.args.begin (c.requires.begins t l is));
}

pub bytes-preserved : goal.bytes-preserved
bytes-preserved c =
    let inv = c.bytes.invariant in
    let self = c.args.self.now in
    let text = c.args.text.now in
    let from = c.args.from in
    let at = c.bytes.at in
    let count = c.bytes.count in
    let marks = c.bytes.marks in
    let row = c.bytes.row in
    let to = c.next-behind.result in
    let byte = get_or text (from + at) 0 in
    let here : from + at < length text = omega (arith, c.requires.inside, c.bytes-test.true) in
    let room : count < length marks = omega (arith, inv.count, inv.room, c.requires.room, c.bytes-test.true) in
    let is_row : row_behind self.cells.items self.columns.items row byte ≡ to =
    sym (c.next-behind.ensures.behind ∙ ap (λ xs. row_behind xs c.as_slice-columns.result.now row byte) c.as_slice-cells.ensures.value ∙ ap (λ xs. row_behind self.cells.items xs row byte) c.as_slice-columns.ensures.value) in
    record {
      row = omega (arith, c.next-behind.ensures.row, c.len-height.ensures, self.bases.ok.0);
      count = elim (cases_lt to self.fresh) [
        | inl lt ↦ omega (arith, c.begun-count.ensures.none lt, inv.count)
        | inr ge ↦ omega (arith, c.begun-count.ensures.one ge, inv.count)
      ];
      room = length-set marks count c.new.result ∙ inv.room;
      lane = λ t l is.
          let goes : GoesTo t l self row byte to = subst (GoesTo t l self row byte) is_row (is.1 row byte inv.row (omega (arith, c.type_inv.text (from + at)))) in
          subst (λ m. IsLane t l self text from 0 (set marks count m) (count + c.begun-count.result) (at + 1) to) (sym c.new.ensures)
          (passes t l self text from 0 marks count at row to c.begun-count.result (inv.lane t l is) here inv.row room goes c.begun-count.ensures.one c.begun-count.ensures.none);
    }

pub returns-clause-marks : goal.returns-clause-marks
returns-clause-marks c t l is = (c.bytes.invariant.lane t l is).0
