use Rattle.std.proofs.Common.{[], Some, option_map, slice_get, length, refl, sym, ap, ◌∙◌}
use Rattle.std.proofs.lemmas.Slice.Eq.{bytes_eq-Decides}
use Rattle.std.proofs.lemmas.Option.{slice_get-map, slice_get_read, get_or_from_slice_get}
use Rattle.lrlex_table.specs.Determinizer.{lists_of}
use Rattle.lrlex_table.proofs.determinize.Determinizer.find.Goals as goal

pub returns-in-loop-probe-clause-is : goal.returns-in-loop-probe-clause-is
returns-in-loop-probe-clause-is c =
    let text = (bytes_eq-Decides c.as_slice.result.now c.args.threads.now).0 (sym c.eq.ensures ∙ c.if-eq.true) in
    let at = c.in-Some-get.ensures.lookup in
    let rows = c.args.self.now.rows.items in
    let row = c.in-Some.row in
    let read = ap (λ xs. slice_get xs row) (sym c.deref.ensures.value) ∙ slice_get_read c.deref.result.now (length c.deref.result.now) row c.in-Some-get.found.now refl at.3.0 at.1 in
    get_or_from_slice_get (lists_of c.args.self.now.rows) row c.args.threads.now []
    (slice_get-map (λ v. v.items) rows row ∙ ap (option_map (λ v. v.items)) read ∙ ap Some (sym c.as_slice.ensures.value ∙ text))
