use Rattle.std.proofs.Common.{◌≡◌, length, arith}
use Rattle.std.proofs.lemmas.List.{length-map}
use Rattle.lrlex_table.specs.Determinizer.{lists_of}
use Rattle.lrlex_table.proofs.DeterminizerLemmas.{serves_one}
use Rattle.lrlex_table.proofs.determinize.determinize.Goals as goal

pub marked_table-requires : goal.marked_table-requires
marked_table-requires c =
    let made = c.fill_all.new.self in
    let len : length (lists_of made.rows) ≡ length made.rows.items = length-map made.rows.items (λ v. v.items) in
    let filled = c.in_ok-fill_all.ensures.filled c.if-not-branch.false in
    record {
      wide = omega (arith, filled.wins, filled.cells);
      start = omega (arith, len, filled.built.some, filled.wins, made.rows.ok.0);
      inside = λ i. omega (arith, len, filled.built.inside i, filled.wins, made.rows.ok.0);
    }

pub returns-clause-table : goal.returns-clause-table
returns-clause-table c re measures =
    let made = c.fill_all.new.self in
    let len : length (lists_of made.rows) ≡ length made.rows.items = length-map made.rows.items (λ v. v.items) in
    let filled = c.in_ok-fill_all.ensures.filled c.if-not-branch.false in
    c.marked_table.ensures.table _ (serves_one c.args.dfa.now.nfa (lists_of made.rows) made.next.items made.wins.items (c.asks_for_starts.ensures c.if-not-asks_for_starts.false) filled.built
    (omega (arith, len, filled.wins, made.rows.ok.0, made.wins.ok.0)) (omega (arith, len, filled.cells, made.rows.ok.0, made.next.ok.0)) re measures)
