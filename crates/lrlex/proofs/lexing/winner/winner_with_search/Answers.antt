use Rattle.std.proofs.Common.{◌≡◌, ℕ, ◌+◌, ◌<◌, ◌≤◌, ◌⊎◌, max, true, length, slice_get, vec_len, get_or, refl, sym, ap, ◌∙◌, subst, inl, inr, arith}
use Rattle.std.proofs.lemmas.Option.{slice_get_read}
use Rattle.std.proofs.lemmas.List.{length-map}
use Rattle.lrlex_rules.specs.RuleParts.{as_rule}
use Rattle.lrlex_matching.specs.Matching.{match_length}
use Rattle.lrlex_table.specs.Tables.{IsBestAmong, len_of}
use Rattle.lrlex_rules.specs.Matchers.{IsMatcherOf}
use Rattle.lrlex_definition.specs.StateTables.{patterns_on, pattern_in}
use Rattle.lrlex_rules.specs.Active.{is_active}
use Rattle.lrlex_rules.specs.Tiling.{Wins}
use Rattle.lrlex_definition.specs.RuleTable.{definition_by}
use Rattle.lrlex.specs.declared.lexing.winner.Tile.{Tile}
use Rattle.lrlex.proofs.CountLemmas.{active_count-le}
use Rattle.lrlex_rules.proofs.PlaceLemmas.{all_places}
use Rattle.lrlex_rules.proofs.ScanLemmas.{length-places_of}
use Rattle.lrlex_rules.proofs.MatcherLemmas.{matcher_at, matchers_set}
use Rattle.lrlex.proofs.DecidedLemmas.{decided_whole}
use Rattle.lrlex_definition.proofs.TableLemmas.{active_within, looked_at, looked_more, other_within, others_few, told_none, told_some, best_kept, best_taken, best_wins, best_stuck, asked_is}
use Rattle.lrlex_definition.proofs.ServedLemmas.{pattern_here}
use Rattle.lrlex_definition.specs.StateTables.{most_tables}
use Rattle.lrlex_table.proofs.LinearLemmas.{linear_later}
use Rattle.lrlex_definition.proofs.MostLemmas.{few_tables}
use Rattle.lrlex.proofs.LinearLemmas.{worked_past}
use Rattle.lrlex.proofs.lexing.winner.winner_with_search.Goals as goal
use Rattle.lrlex.proofs.lexing.winner.winner_with_search.Goals.{in-Some, in-None, then-is_better, else-is_better}

pub others-init : goal.others-init
others-init g c =
    let d = definition_by g.S.Numbered.number c.args.table.now in
    let q = c.args.state in
    let text = c.args.text.now in
    let places = c.args.rules.active.now in
    let t = c.args.rules.tables.now in
    let told = λ (b : Tile). IsBestAmong (patterns_on d.rules places) (looked_at t.parts.items t.asked.items 0) text b.rule b.len in
    record {
      matchers = c.requires.held.0;
      counted = omega arith;
      best = elim c.match-scan.branch [
        | in-Some w ↦
            subst told (sym w.best-is)
            (told_some d q text places t.asked.items c.requires.rules.active t refl c.requires.rules.tables c.winner_at-scan.result.winner c.winner_at-scan.ensures.winner w.in-Some.found w.in-Some.is)
        | in-None w ↦
            subst told (sym w.best-is)
            (told_none d q text places t.asked.items c.requires.rules.active t refl c.requires.rules.tables c.winner_at-scan.result.winner c.winner_at-scan.ensures.winner w.in-None.is)
      ];
      linear = λ first was.
          let lists = c.args.table.now.tables.items in
          let scan = c.winner_at-scan.result in
          let some : max 1 (len_of scan.winner) ≤ max 1 c.match-scan.best.len = elim c.match-scan.branch [
            | in-Some w ↦ omega (arith, ap len_of w.in-Some.is, ap (λ b. b.len) w.best-is)
            | in-None w ↦ omega (arith, ap len_of w.in-None.is)
          ] in
          worked_past (most_tables lists) first (c.args.from + max 1 (len_of scan.winner)) (c.args.from + max 1 c.match-scan.best.len) c.winner_at-scan.new.self c.requires.rules.tables
          (λ are. c.winner_at-scan.ensures.linear _ (most_tables lists) first are (few_tables lists c.args.rules.list t c.requires.rules.list) was) (omega (arith, some));
    }

pub bounds-active-number : goal.bounds-active-number
bounds-active-number g c =
    let d = definition_by g.S.Numbered.number c.args.table.now in
    let t = c.args.rules.tables.now in
    other_within d c.args.state c.args.text.now c.args.rules.active.now c.asked.result.now c.requires.rules.active t c.asked.ensures c.requires.rules.tables c.others.index
    (omega (arith, ap length c.asked.ensures, ap length c.asked-index-end.ensures))

pub offset_bounds-active-number : goal.offset_bounds-active-number
offset_bounds-active-number g c =
    let d = definition_by g.S.Numbered.number c.args.table.now in
    let t = c.args.rules.tables.now in
    let within = other_within d c.args.state c.args.text.now c.args.rules.active.now c.asked.result.now c.requires.rules.active t c.asked.ensures c.requires.rules.tables c.others.index
    (omega (arith, ap length c.asked.ensures, ap length c.asked-index-end.ensures)) in
    let places = c.args.rules.active.now in
    let rules_len = length-map c.args.table.now.rules.items (as_rule g.S.Numbered.number) in
    let few = length-places_of d c.args.state places c.requires.rules.active in
    omega (arith, few, active_count-le d c.args.state, rules_len, c.args.table.now.rules.ok.0, c.args.table.now.rules.ok.1, c.args.table.now.rules.small)

pub index-rule-requires : goal.index-rule-requires
index-rule-requires g c =
    let d = definition_by g.S.Numbered.number c.args.table.now in
    let t = c.args.rules.tables.now in
    let places = c.args.rules.active.now in
    let within = other_within d c.args.state c.args.text.now places c.asked.result.now c.requires.rules.active t c.asked.ensures c.requires.rules.tables c.others.index
    (omega (arith, ap length c.asked.ensures, ap length c.asked-index-end.ensures)) in
    let rules_len = length-map c.args.table.now.rules.items (as_rule g.S.Numbered.number) in
    omega (arith, c.args.table.now.rules.ok.0, rules_len, active_within d c.args.state places c.requires.rules.active (get_or c.asked.result.now c.others.index 0) within)

pub bounds-matchers-place : goal.bounds-matchers-place
bounds-matchers-place g c =
    let rules = c.args.table.now.rules.items in
    let d = definition_by g.S.Numbered.number c.args.table.now in
    let t = c.args.rules.tables.now in
    let places = c.args.rules.active.now in
    let within = other_within d c.args.state c.args.text.now places c.asked.result.now c.requires.rules.active t c.asked.ensures c.requires.rules.tables c.others.index
    (omega (arith, ap length c.asked.ensures, ap length c.asked-index-end.ensures)) in
    let rules_len = length-map rules (as_rule g.S.Numbered.number) in
    omega (arith, c.others.invariant.matchers.0, rules_len, active_within d c.args.state places c.requires.rules.active (get_or c.asked.result.now c.others.index 0) within)

pub offset_bounds-matchers-place : goal.offset_bounds-matchers-place
offset_bounds-matchers-place g c =
    let rules = c.args.table.now.rules.items in
    let d = definition_by g.S.Numbered.number c.args.table.now in
    let t = c.args.rules.tables.now in
    let places = c.args.rules.active.now in
    let within = other_within d c.args.state c.args.text.now places c.asked.result.now c.requires.rules.active t c.asked.ensures c.requires.rules.tables c.others.index
    (omega (arith, ap length c.asked.ensures, ap length c.asked-index-end.ensures)) in
    let rules_len = length-map rules (as_rule g.S.Numbered.number) in
    let place = active_within d c.args.state places c.requires.rules.active (get_or c.asked.result.now c.others.index 0) within in
    omega (arith, c.args.table.now.rules.ok.0, c.args.table.now.rules.ok.1, c.args.table.now.rules.small)

pub match_rule-requires : goal.match_rule-requires
match_rule-requires g c =
    let rules = c.args.table.now.rules.items in
    let d = definition_by g.S.Numbered.number c.args.table.now in
    let t = c.args.rules.tables.now in
    let places = c.args.rules.active.now in
    let within = other_within d c.args.state c.args.text.now places c.asked.result.now c.requires.rules.active t c.asked.ensures c.requires.rules.tables c.others.index
    (omega (arith, ap length c.asked.ensures, ap length c.asked-index-end.ensures)) in
    let place = get_or places (get_or c.asked.result.now c.others.index 0) 0 in
    let rules_len = length-map rules (as_rule g.S.Numbered.number) in
    let below : place < length rules = omega (arith, rules_len, active_within d c.args.state places c.requires.rules.active (get_or c.asked.result.now c.others.index 0) within) in
    let few = others_few d c.args.state c.args.text.now places t.asked.items c.requires.rules.active t refl c.requires.rules.tables in
    let at = slice_get_read rules (length rules) place c.index-rule.result.now refl below c.index-rule.ensures in
    record {
      slot = subst (IsMatcherOf c.index-rule.result.now) c.index-matchers-place.is (matcher_at rules c.others.matchers c.others.invariant.matchers place c.index-rule.result.now at c.index-matchers-place.result c.index-matchers-place.is);
      room = omega (arith, few, c.others.invariant.counted, c.args.table.now.rules.ok.0, length-places_of d c.args.state places c.requires.rules.active, active_count-le d c.args.state, rules_len, ap length c.asked-index-end.ensures);
    }

pub others-preserved : goal.others-preserved
others-preserved g c =
    let rules = c.args.table.now.rules.items in
    let d = definition_by g.S.Numbered.number c.args.table.now in
    let q = c.args.state in
    let text = c.args.text.now in
    let places = c.args.rules.active.now in
    let t = c.args.rules.tables.now in
    let i = c.others.index in
    let k = get_or c.asked.result.now i 0 in
    let place = get_or places k 0 in
    let r = c.index-rule.result.now in
    let inv = c.others.invariant in
    let here : i < length t.asked.items = omega (arith, ap length c.asked-index-end.ensures) in
    let within = other_within d q text places c.asked.result.now c.requires.rules.active t c.asked.ensures c.requires.rules.tables i (omega (arith, ap length c.asked.ensures)) in
    let rules_len = length-map rules (as_rule g.S.Numbered.number) in
    let below : place < length rules = omega (arith, rules_len, active_within d q places c.requires.rules.active k within) in
    let at = slice_get_read rules (length rules) place r refl below c.index-rule.ensures in
    let len = c.in_ok-len.len in
    let ps = patterns_on d.rules places in
    let is = asked_is g.S.Numbered.number d rules refl places text k place len r within refl below c.index-rule.ensures (c.in_ok-len.ensures.length ∙ ap (λ re. match_length re text) (pattern_here (λ _. 0) g.S.Numbered.number r)) in
    let inside : k < length ps = omega (arith, within, length-map places (pattern_in d.rules)) in
    let a = looked_at t.parts.items t.asked.items i in
    let b = looked_at t.parts.items t.asked.items (i + 1) in
    let more : (j : ℕ) → b j ≡ true → (a j ≡ true) ⊎ (k ≡ j) = λ j h. elim (looked_more t.parts.items t.asked.items i j here h) [
      | inl old ↦ inl old
      | inr new ↦ inr (ap (λ xs. get_or xs i 0) c.asked.ensures ∙ new)
    ] in
    let matchers = matchers_set rules c.others.matchers inv.matchers place r at c.match_rule.new.slot c.in_ok-len.ensures.slot in
    let best = λ (x : Tile). IsBestAmong ps b text x.rule x.len in
    elim c.if-is_better.branch [
      | then-is_better w ↦ record {
        matchers = matchers;
        counted = omega (arith, inv.counted, c.in_ok-len.ensures.counted);
        best = subst best (sym w.best-is)
            (best_taken ps text a b k more c.others.best.rule c.others.best.len inv.best len is inside c.in_ok-len.ensures.boundary (c.is_better.ensures.better w.if-is_better.true));
        linear = λ first was.
            let more : c.others.best.len ≤ len = elim (c.is_better.ensures.better w.if-is_better.true) [
              | inl more ↦ omega (arith, more)
              | inr as_many ↦ omega (arith, as_many.0)
            ] in
            linear_later _ first (c.args.from + max 1 c.others.best.len) _ _ (inv.linear first was) (omega (arith, more, ap (λ b. b.len) w.best-is));
      }
      | else-is_better w ↦ record {
        matchers = matchers;
        counted = omega (arith, inv.counted, c.in_ok-len.ensures.counted);
        best = subst best (sym w.best-is)
            (best_kept ps text a b k more c.others.best.rule c.others.best.len inv.best (subst (λ n. n ≤ c.others.best.len) is (c.is_better.ensures.no_more w.if-is_better.false))
            (λ e. c.is_better.ensures.later w.if-is_better.false (is ∙ e)));
        linear = λ first was. linear_later _ first (c.args.from + max 1 c.others.best.len) _ _ (inv.linear first was) (omega (arith, ap (λ b. b.len) w.best-is));
      }
    ]

pub active_place-requires-clause-all : goal.active_place-requires-clause-all
active_place-requires-clause-all g c same i lt =
    let d = definition_by g.S.Numbered.number c.args.table.now in
    let q = c.args.state in
    let places = c.args.rules.active.now in
    let rules_len = length-map c.args.table.now.rules.items (as_rule g.S.Numbered.number) in
    let ok = c.args.table.now.rules.ok.0 in
    let each = all_places (is_active d.states q) 0 d.rules (omega (arith, ap length c.requires.rules.active, same, rules_len, ok)) i (omega (arith, lt, rules_len, ok)) in
    ap (λ xs. get_or xs i 0) c.requires.rules.active ∙ omega (arith, each)

pub returns-clause-tile : goal.returns-clause-tile
returns-clause-tile g c =
    let d = definition_by g.S.Numbered.number c.args.table.now in
    let places = c.args.rules.active.now in
    let inside = c.others.invariant.best.within (omega (arith, c.if-best-eq0.false)) in
    let count = length-map places (pattern_in d.rules) in
    let rules_len = length-map c.args.table.now.rules.items (as_rule g.S.Numbered.number) in
    let rule : c.active_place.result < vec_len c.args.table.now.rules = omega (arith, c.active_place.ensures, c.args.table.now.rules.ok.0, rules_len, active_within d c.args.state places c.requires.rules.active c.others.best.rule (omega (arith, inside, count))) in
    (c.others.invariant.best.cuts, rule)

pub returns-then-best-eq0-clause-scan : goal.returns-then-best-eq0-clause-scan
returns-then-best-eq0-clause-scan g c =
    let d = definition_by g.S.Numbered.number c.args.table.now in
    let t = c.args.rules.tables.now in
    let q = c.args.state in
    let text = c.args.text.now in
    record {
      winner =
          best_stuck d c.args.state c.args.text.now c.args.rules.active.now t.asked.items c.requires.rules.active t refl c.requires.rules.tables c.others.index c.others.best.rule c.others.best.len
          (omega (arith, c.others-test.false, ap length c.asked-index-end.ensures)) c.others.invariant.best c.if-best-eq0.true;
      decided = decided_whole d q text;
    }

pub returns-then-best-eq0-clause-asked : goal.returns-then-best-eq0-clause-asked
returns-then-best-eq0-clause-asked g c =
    let d = definition_by g.S.Numbered.number c.args.table.now in
    let t = c.args.rules.tables.now in
    let places = c.args.rules.active.now in
    record {
      counted = omega (
        arith,
        c.others.invariant.counted,
        c.others.auto.index-end,
        ap length c.asked-index-end.ensures,
        length-places_of d c.args.state places c.requires.rules.active,
        others_few d c.args.state c.args.text.now places t.asked.items c.requires.rules.active t refl c.requires.rules.tables,
      );
      exact = omega (
        arith,
        c.others.invariant.counted,
        c.others.auto.index-end,
        c.others-test.false,
        ap length c.asked-index-end.ensures,
        c.requires.rules.untabled,
      );
    }

pub returns-clause-scan : goal.returns-clause-scan
returns-clause-scan g c =
    let d = definition_by g.S.Numbered.number c.args.table.now in
    let t = c.args.rules.tables.now in
    let text = c.args.text.now in
    let best = c.others.best in
    let q = c.args.state in
    record {
      winner =
          subst (λ r. Wins d c.args.state text r best.len) (sym c.active_place.ensures)
          (best_wins d c.args.state text c.args.rules.active.now t.asked.items c.requires.rules.active t refl c.requires.rules.tables c.others.index best.rule best.len
          (omega (arith, c.others-test.false, ap length c.asked-index-end.ensures)) c.others.invariant.best (omega (arith, c.if-best-eq0.false)));
      decided = decided_whole d q text;
    }

pub returns-clause-asked : goal.returns-clause-asked
returns-clause-asked g c =
    let d = definition_by g.S.Numbered.number c.args.table.now in
    let t = c.args.rules.tables.now in
    let places = c.args.rules.active.now in
    record {
      counted = omega (
        arith,
        c.others.invariant.counted,
        c.others.auto.index-end,
        ap length c.asked-index-end.ensures,
        length-places_of d c.args.state places c.requires.rules.active,
        others_few d c.args.state c.args.text.now places t.asked.items c.requires.rules.active t refl c.requires.rules.tables,
      );
      exact = omega (
        arith,
        c.others.invariant.counted,
        c.others.auto.index-end,
        c.others-test.false,
        ap length c.asked-index-end.ensures,
        c.requires.rules.untabled,
      );
    }

pub winner_at-scan-requires-clause-tables : goal.winner_at-scan-requires-clause-tables
winner_at-scan-requires-clause-tables g c = ap (λ xs. slice_get xs c.args.rules.list) c.requires.held.1 ∙ c.requires.rules.list

pub returns-in_err-len-clause-matchers : goal.returns-in_err-len-clause-matchers
returns-in_err-len-clause-matchers g c =
    let rules = c.args.table.now.rules.items in
    let d = definition_by g.S.Numbered.number c.args.table.now in
    let t = c.args.rules.tables.now in
    let places = c.args.rules.active.now in
    let k = get_or c.asked.result.now c.others.index 0 in
    let place = get_or places k 0 in
    let r = c.index-rule.result.now in
    let within = other_within d c.args.state c.args.text.now places c.asked.result.now c.requires.rules.active t c.asked.ensures c.requires.rules.tables c.others.index
    (omega (arith, ap length c.asked.ensures, ap length c.asked-index-end.ensures)) in
    let rules_len = length-map rules (as_rule g.S.Numbered.number) in
    let below : place < length rules = omega (arith, rules_len, active_within d c.args.state places c.requires.rules.active k within) in
    let at = slice_get_read rules (length rules) place r refl below c.index-rule.ensures in
    matchers_set rules c.others.matchers c.others.invariant.matchers place r at c.match_rule.new.slot c.in_err-len.ensures.slot

pub returns-then-best-eq0-clause-linear : goal.returns-then-best-eq0-clause-linear
returns-then-best-eq0-clause-linear g c first was =
    linear_later _ first (c.args.from + max 1 c.others.best.len) (c.args.from + 1) _ (c.others.invariant.linear first was) (omega (arith, c.if-best-eq0.true))
