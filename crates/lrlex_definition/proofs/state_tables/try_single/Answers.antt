use Rattle.std.proofs.Common.{◌∷◌, [], length, map, refl, sym, subst, IfSome}
use Rattle.std.proofs.lemmas.Option.{slice_get_read}
use Rattle.lrlex_rules.specs.RuleParts.{as_rule}
use Rattle.lrlex_table.specs.Table.{IsTableOf}
use Rattle.lrlex_definition.specs.StateTables.{pattern_in}
use Rattle.lrlex_definition.proofs.ServedLemmas.{single_set, pattern_in_at}
use Rattle.lrlex_definition.proofs.state_tables.try_single.Goals as goal

pub returns-in_ok-table-clause-cached : goal.returns-in_ok-table-clause-cached
returns-in_ok-table-clause-cached g c single =
    let rules = c.args.rules.now in
    let i = c.args.place in
    let r = c.index-rules-place.result in
    let pattern = pattern_in (map (as_rule (λ _. 0)) rules) in
    let own = pattern_in_at rules i r (slice_get_read rules (length rules) i r refl c.if-place-rules.true c.index-rules-place.is) in
    single_set pattern c.args.singles.now i c.tried.new.self single c.if-place-singles.true
    (subst (λ o. IfSome o (IsTableOf (pattern i ∷ []))) (sym c.tried.ensures.table)
    (subst (λ re. IfSome c.in_ok-table.table (IsTableOf (re ∷ []))) (sym own) c.in_ok-table.ensures.table))
