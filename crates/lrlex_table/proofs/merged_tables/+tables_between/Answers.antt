use Rattle.std.proofs.Common.{◌≡◌, ◌+◌, map, sym, subst, IfOk, arith, rules}
use Rattle.std.proofs.lemmas.List.{get_or-map}
use Rattle.regex.specs.Patterns.{empty}
use Rattle.lrlex_table.specs.Tables.{ArePartsOf}
use Rattle.lrlex_table.proofs.merged_tables.+tables_between.Goals as goal

pub returns-then-to-from-eq1-clause-tables : goal.returns-then-to-from-eq1-clause-tables
returns-then-to-from-eq1-clause-tables t c pattern cached =
    let places = c.args.places.now in
    let one : c.args.to ≡ c.args.from + 1 = omega arith in
    subst (λ to. IfOk c.alone.result (λ r. ArePartsOf (map pattern places) c.args.from to r.parts.items r.asked.items)) (sym one)
    (c.alone.ensures.tables pattern (map pattern places) cached (get_or-map pattern places c.args.from 0 empty (omega arith)))

pub returns-in-Some-clause-tables : goal.returns-in-Some-clause-tables
returns-in-Some-clause-tables t c pattern cached =
    rw c.in-Some.is at (c.in_ok-tables.ensures.tables pattern cached)

pub returns-clause-tables : goal.returns-clause-tables
returns-clause-tables t c pattern cached =
    let first = c.in_ok-tables.ensures.kept pattern cached in
    let left = c.in_ok-left.ensures.tables pattern first in
    let right = c.in_ok-right.ensures.tables pattern (c.in_ok-left.ensures.kept pattern first) in
    c.joined_tables.ensures.tables (map pattern c.args.places.now) _ _ _ left right

pub returns-clause-kept : goal.returns-clause-kept
returns-clause-kept t c pattern cached =
    let first = c.in_ok-tables.ensures.kept pattern cached in
    let last = c.in_ok-right.ensures.kept pattern (c.in_ok-left.ensures.kept pattern first) in
    search rules
