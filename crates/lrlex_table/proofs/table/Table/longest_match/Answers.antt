use Rattle.std.proofs.Common.{◌+◌, ◌≤◌, length, subst}
use Rattle.lrlex_table.specs.Table.{next_rows, EndsInRow}
use Rattle.lrlex_table.proofs.table.Table.longest_match.Goals as goal

pub scan_of-requires-clause-ends : goal.scan_of-requires-clause-ends
scan_of-requires-clause-ends c =
    let t = c.args.self.now in
    let walk = c.longest-walk.result in
    subst (λ xs. EndsInRow (next_rows t) t.wins.items t.start xs walk.reach walk.len walk.row) c.as_bytes.ensures.value c.longest-walk.ensures.ends

pub scan_of-requires-clause-within : goal.scan_of-requires-clause-within
scan_of-requires-clause-within c = subst (λ xs. c.longest-walk.result.reach ≤ length xs + 1) c.as_bytes.ensures.value c.longest-walk.ensures.reach.within
