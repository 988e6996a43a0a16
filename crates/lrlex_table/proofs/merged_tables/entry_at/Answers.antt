use Rattle.std.proofs.Common.{◌≡◌, ◌-◌, ◌<◌, length, get_or, Some, slice_get, sym, arith}
use Rattle.std.proofs.lemmas.Option.{slice_get_within, get_or_from_slice_get}
use Rattle.lrlex_table.proofs.PartLemmas.{rising_whole}
use Rattle.lrlex_table.proofs.merged_tables.entry_at.Goals as goal

pub returns-then-place-last-clause-pattern : goal.returns-then-place-last-clause-pattern
returns-then-place-last-clause-pattern c hi rises =
    let xs = c.args.patterns.now in
    let z = c.in_ok-last.field-0.now in
    let at : slice_get xs (length xs - 1) ≡ Some z = sym c.in_ok-last.ensures.value in
    let some = slice_get_within xs (length xs - 1) z at in
    let last : get_or xs (length xs - 1) 0 ≡ length xs - 1 = omega (arith, get_or_from_slice_get xs (length xs - 1) z 0 at, c.if-last-patterns.true) in
    let within : c.args.place < length xs = omega (arith, c.if-place-last.true, c.if-last-patterns.true) in
    (within, sym (rising_whole hi xs c.args.place rises within last))
