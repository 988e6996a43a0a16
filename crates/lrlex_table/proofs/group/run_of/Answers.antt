use Rattle.std.proofs.Common.{◌≡◌, Some, sym, ap, ◌∙◌}
use Rattle.lrlex_table.specs.Table.{next_of, next_rows}
use Rattle.lrlex_table.specs.Group.{table_in, nexts_of, nexts_in}
use Rattle.lrlex_table.proofs.CellLemmas.{same_row}
use Rattle.lrlex_table.proofs.GroupLemmas.{step_same}
use Rattle.lrlex_table.proofs.group.run_of.Goals as goal

pub returns-then-row-rows-clause-same : goal.returns-then-row-rows-clause-same
returns-then-row-rows-clause-same c i ge lt =
    let na = nexts_in c.args.cache.now c.args.places.now in
    let live = c.args.live in
    let table = c.in-Some.table.now in
    let there : table_in c.args.cache.now c.args.places.now live.0 ≡ Some table = c.in-Some.ensures in
    let nexts : na live.0 ≡ next_rows table = ap nexts_of there in
    step_same (na live.0) live.1 c.args.byte i
    (ap (λ xs. next_of xs live.1 (Some i)) nexts ∙ sym (same_row table.cells.items _ _ (c.same_until.ensures.same i ge lt))
    ∙ sym (ap (λ xs. next_of xs live.1 (Some c.args.byte)) nexts))
