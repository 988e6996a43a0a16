use Rattle.std.proofs.Common.{◌≡◌, IsTrue, length, map, slice_index_or, arith, rules}
use Rattle.std.proofs.lemmas.List.{get_or-map, length-map}
use Rattle.regex.specs.Patterns.{empty}
use Rattle.lrlex_table.specs.Group.{table_in, nexts_in, wins_in, start_in, live_rows_of}
use Rattle.lrlex_table.proofs.GroupLemmas.{start_of_some, wins_of_none, group_serves, serves_group}
use Rattle.lrlex_table.proofs.group.group_table.Goals as goal

pub returns-clause-table : goal.returns-clause-table
returns-clause-table c pattern cached =
    let cache = c.args.cache.now in
    let places = c.args.places.now in
    let made = c.fill_all.new.self in
    let done : IsTrue c.in_ok-fill_all.field-0 = search rules in
    let filled = c.in_ok-fill_all.ensures.filled done in
    let rows : length (live_rows_of made.rows) ≡ length made.rows.items = length-map made.rows.items (λ v. v.items) in
    c.marked_table.ensures.table _ (serves_group (length places) (nexts_in cache places) (wins_in cache places) (start_in cache places) (live_rows_of made.rows) made.next.items made.wins.items
    filled.built (omega (arith, filled.wins, made.rows.ok.0, made.wins.ok.0, rows)) (omega (arith, filled.cells, made.rows.ok.0, made.next.ok.0, rows))
    (λ k lt. start_of_some (table_in cache places k) (filled.tabled k lt)) (λ k lt. wins_of_none (table_in cache places k))
    (λ k. pattern (slice_index_or places k 0)) (map pattern places) (group_serves pattern cache places cached filled.tabled) c.requires (length-map places pattern)
    (λ k lt. get_or-map pattern places k 0 empty lt))
