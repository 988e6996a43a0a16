use Rattle.std.proofs.Common.{◌+◌, ◌<◌, ◌≤◌, max, length, slice_get, get_or, refl, sym, ap, ◌∙◌, subst, arith}
use Rattle.std.proofs.lemmas.List.{length-map}
use Rattle.lrlex_rules.specs.RuleParts.{as_rule}
use Rattle.lrlex_definition.specs.StateTables.{pattern_in}
use Rattle.lrlex_rules.specs.Active.{is_active}
use Rattle.lrlex_rules.specs.Tiling.{Wins}
use Rattle.lrlex_definition.specs.RuleTable.{definition_by}
use Rattle.lrlex_rules.proofs.PlaceLemmas.{all_places}
use Rattle.lrlex.proofs.DecidedLemmas.{decided_look}
use Rattle.lrlex_definition.proofs.TableLemmas.{active_within, told_none, told_some, told_bytes, best_wins, best_stuck}
use Rattle.lrlex_table.specs.Tables.{len_of}
use Rattle.lrlex_definition.specs.StateTables.{most_tables}
use Rattle.lrlex_definition.proofs.MostLemmas.{few_tables}
use Rattle.lrlex.proofs.LinearLemmas.{worked_past}
use Rattle.lrlex.proofs.lexing.winner.tabled_winner.Goals as goal

pub winner_at-scan-requires-clause-tables : goal.winner_at-scan-requires-clause-tables
winner_at-scan-requires-clause-tables g c = ap (λ xs. slice_get xs c.args.rules.list) c.requires.ends.0 ∙ c.requires.rules.list

pub returns-in_default-clause-scan : goal.returns-in_default-clause-scan
returns-in_default-clause-scan g c =
    let d = definition_by g.S.Numbered.number c.args.table.now in
    let q = c.args.state in
    let text = c.args.text.now in
    let places = c.args.rules.active.now in
    let t = c.args.rules.tables.now in
    let past : length t.asked.items ≤ 0 = omega (arith, ap length c.requires.tabled) in
    let told = told_none d q text places t.asked.items c.requires.rules.active t refl c.requires.rules.tables c.winner_at-scan.result.winner c.winner_at-scan.ensures.winner c.in_default.is in
    record {
      winner = best_stuck d q text places t.asked.items c.requires.rules.active t refl c.requires.rules.tables 0 0 0 past told refl;
      decided = decided_look d q text places t.asked.items c.requires.rules.active t refl c.requires.rules.tables 0 0 0 past told c.winner_at-scan.result.reach c.requires.tabled c.winner_at-scan.ensures.decided;
    }

pub active_place-rule-requires-clause-within : goal.active_place-rule-requires-clause-within
active_place-rule-requires-clause-within g c =
    let d = definition_by g.S.Numbered.number c.args.table.now in
    let q = c.args.state in
    let text = c.args.text.now in
    let places = c.args.rules.active.now in
    let t = c.args.rules.tables.now in
    let past : length t.asked.items ≤ 0 = omega (arith, ap length c.requires.tabled) in
    let found = c.in-Some.found in
    let told = told_some d q text places t.asked.items c.requires.rules.active t refl c.requires.rules.tables c.winner_at-scan.result.winner c.winner_at-scan.ensures.winner found c.in-Some.is in
    let some = told_bytes d q text places t.asked.items c.requires.rules.active t refl c.requires.rules.tables c.winner_at-scan.result.winner c.winner_at-scan.ensures.winner found c.in-Some.is in
    omega (arith, told.within some, length-map places (pattern_in d.rules))

pub active_place-rule-requires-clause-all : goal.active_place-rule-requires-clause-all
active_place-rule-requires-clause-all g c same i lt =
    let d = definition_by g.S.Numbered.number c.args.table.now in
    let rules_len = length-map c.args.table.now.rules.items (as_rule g.S.Numbered.number) in
    let ok = c.args.table.now.rules.ok.0 in
    let each = all_places (is_active d.states c.args.state) 0 d.rules (omega (arith, ap length c.requires.rules.active, same, rules_len, ok, c.len.ensures)) i (omega (arith, lt, rules_len, ok, c.len.ensures)) in
    ap (λ xs. get_or xs i 0) c.requires.rules.active ∙ omega (arith, each)

pub returns-clause-scan : goal.returns-clause-scan
returns-clause-scan g c =
    let d = definition_by g.S.Numbered.number c.args.table.now in
    let q = c.args.state in
    let text = c.args.text.now in
    let places = c.args.rules.active.now in
    let t = c.args.rules.tables.now in
    let past : length t.asked.items ≤ 0 = omega (arith, ap length c.requires.tabled) in
    let found = c.in-Some.found in
    let told = told_some d q text places t.asked.items c.requires.rules.active t refl c.requires.rules.tables c.winner_at-scan.result.winner c.winner_at-scan.ensures.winner found c.in-Some.is in
    let some = told_bytes d q text places t.asked.items c.requires.rules.active t refl c.requires.rules.tables c.winner_at-scan.result.winner c.winner_at-scan.ensures.winner found c.in-Some.is in
    record {
      winner =
          subst (λ r. Wins d q text r found.len) (sym c.active_place-rule.ensures)
          (best_wins d q text places t.asked.items c.requires.rules.active t refl c.requires.rules.tables 0 found.pattern found.len past told some);
      decided = decided_look d q text places t.asked.items c.requires.rules.active t refl c.requires.rules.tables 0 found.pattern found.len past told c.winner_at-scan.result.reach c.requires.tabled c.winner_at-scan.ensures.decided;
    }

pub returns-clause-tile : goal.returns-clause-tile
returns-clause-tile g c =
    let d = definition_by g.S.Numbered.number c.args.table.now in
    let q = c.args.state in
    let text = c.args.text.now in
    let places = c.args.rules.active.now in
    let t = c.args.rules.tables.now in
    let past : length t.asked.items ≤ 0 = omega (arith, ap length c.requires.tabled) in
    let found = c.in-Some.found in
    let told = told_some d q text places t.asked.items c.requires.rules.active t refl c.requires.rules.tables c.winner_at-scan.result.winner c.winner_at-scan.ensures.winner found c.in-Some.is in
    let some = told_bytes d q text places t.asked.items c.requires.rules.active t refl c.requires.rules.tables c.winner_at-scan.result.winner c.winner_at-scan.ensures.winner found c.in-Some.is in
    let rules_len = length-map c.args.table.now.rules.items (as_rule g.S.Numbered.number) in
    let within : found.pattern < length places = omega (arith, told.within some, length-map places (pattern_in d.rules)) in
    (told.cuts, omega (arith, c.active_place-rule.ensures, c.args.table.now.rules.ok.0, rules_len, active_within d q places c.requires.rules.active found.pattern within))

pub returns-in_default-clause-linear : goal.returns-in_default-clause-linear
returns-in_default-clause-linear g c first was =
    let lists = c.args.table.now.tables.items in
    let scan = c.winner_at-scan.result in
    worked_past (most_tables lists) first (c.args.from + max 1 (len_of scan.winner)) (c.args.from + 1) c.winner_at-scan.new.self c.requires.rules.tables
    (λ are. c.winner_at-scan.ensures.linear _ (most_tables lists) first are (few_tables lists c.args.rules.list c.args.rules.tables.now c.requires.rules.list) was) (omega (arith, ap len_of c.in_default.is))

pub returns-clause-linear : goal.returns-clause-linear
returns-clause-linear g c first was =
    let lists = c.args.table.now.tables.items in
    let scan = c.winner_at-scan.result in
    let found = c.in-Some.found in
    worked_past (most_tables lists) first (c.args.from + max 1 (len_of scan.winner)) (c.args.from + max 1 found.len) c.winner_at-scan.new.self c.requires.rules.tables
    (λ are. c.winner_at-scan.ensures.linear _ (most_tables lists) first are (few_tables lists c.args.rules.list c.args.rules.tables.now c.requires.rules.list) was) (omega (arith, ap len_of c.in-Some.is))
