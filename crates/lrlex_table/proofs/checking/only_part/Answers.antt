use Rattle.std.proofs.Common.{length, refl, arith}
use Rattle.std.proofs.lemmas.Option.{slice_get_read}
use Rattle.std.proofs.lemmas.List.{nil_from_length}
use Rattle.lrlex_table.proofs.CheckingLemmas.{only_of}
use Rattle.lrlex_table.proofs.checking.only_part.Goals as goal

pub returns : goal.returns
returns c =
    let ts = c.in_ok-tables.tables.now in
    let lists = c.args.lists.now in
    let found = c.in_ok-tables.ensures.lookup in
    only_of lists c.args.list ts c.only.result (slice_get_read lists (length lists) c.args.list ts refl found.3.0 found.1) (nil_from_length ts.asked.items (omega (arith, c.if-len-gt0.false, c.len.ensures, ts.asked.ok.0))) c.only.ensures
