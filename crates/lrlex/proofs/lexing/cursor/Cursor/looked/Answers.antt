use Rattle.std.proofs.Common.{◌≤◌, length}
use Rattle.lrlex.specs.Scanner.{sought_at, sought_to}
use Rattle.lrlex.proofs.LinearLemmas.{linear_in_all, sought_within}
use Rattle.lrlex.proofs.lexing.cursor.Cursor.looked.Goals as goal

pub returns : goal.returns
returns g c =
    let table = c.args.table.now in
    let text = c.args.text.now in
    let k = c.args.self.now in
    let sought = sought_at k.place k.sought in
    let to = sought_to k.place sought in
    let le : to ≤ length text = sought_within g.S.Numbered.number table text k.place k.rules.state sought c.requires.stands.boundary.0 c.requires.sought in
    linear_in_all table text k.from to c.looked.result le (c.looked.ensures text k.from to c.requires.searcher (c.requires.worked c.if-self.false) le)
