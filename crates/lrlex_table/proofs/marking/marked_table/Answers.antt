use Rattle.std.proofs.Common.{◌≡◌, ◌<◌, length, slice_index_or, sym, ap, ◌∙◌, subst}
use Rattle.std.proofs.lemmas.List.{with_items_is}
use Rattle.lrlex_table.specs.Cell.{rows_in}
use Rattle.lrlex_table.specs.Table.{Serves}
use Rattle.lrlex_table.proofs.CellLemmas.{rows_back}
use Rattle.lrlex_table.proofs.marking.marked_table.Goals as goal

pub returns-clause-table : goal.returns-clause-table
returns-clause-table c ps is =
    let next = c.args.next.items in
    let shrunk = c.shrink_to_fit.new.self in
    let value = c.deref_mut.ensures.value ∙ c.shrink_to_fit.ensures.items in
    let len = c.mark.ensures.len ∙ ap length value in
    let rows : rows_in c.mark.new.cells ≡ next =
    rows_back c.mark.new.cells next len
    (λ i lt. c.mark.ensures.rows i (subst (λ xs. i < length xs) (sym value) lt) ∙ ap (λ xs. slice_index_or xs i 0) value) in
    let kept = ap rows_in (with_items_is shrunk c.mark.new.cells (len ∙ sym c.args.next.ok.0 ∙ sym c.shrink_to_fit.ensures.len)) in
    subst (λ xs. Serves xs c.args.wins.items c.args.start ps) (sym rows ∙ sym kept) is
