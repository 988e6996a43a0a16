use Rattle.std.proofs.Common.{◌≡◌, ◌+◌, ◌<◌, true, false, length, map, get_or, sym, ◌∙◌, subst, arith}
use Rattle.std.proofs.lemmas.List.{get_or_default}
use Rattle.lrlex_table.proofs.NeverLemmas.{IsStriking, striking_past, striking_out}
use Rattle.lrlex_table.specs.Table.{pattern_at}
use Rattle.lrlex_table.proofs.merged_tables.Part.strike.Goals as goal
use Rattle.lrlex_table.proofs.merged_tables.Part.strike.Goals.{then-not-index, else-not-index}

pub patterns-preserved : goal.patterns-preserved
patterns-preserved c =
    let p = c.args.self.now in
    let old = c.args.may_win.now in
    let at = c.patterns.at in
    let winners = c.in_ok-winners.winners.items in
    let lt : at < length p.patterns.items = omega (arith, c.patterns-test.true, c.len-at-end.ensures, p.patterns.ok.0) in
    let here : at < length winners = omega (arith, lt, c.in_ok-winners.ensures.len, c.len.ensures, c.in_ok-winners.winners.ok.0, p.patterns.ok.0) in
    elim c.if-not-index.branch [
      | then-not-index w ↦
          let rule = w.index-then-not-index.result.now in
          let bare : get_or winners at true ≡ false = get_or_default winners at true c.index.result.now here ∙ sym c.index.ensures ∙ w.if-not-index.true in
          subst (IsStriking p old (at + 1)) (sym w.may_win-is)
          (striking_out p old at c.patterns.may_win c.patterns.invariant w.strike_out.new.may_win rule
          (w.index-then-not-index.ensures ∙ get_or_default p.patterns.items at rule 0 lt) lt
          (λ ps is. c.in_ok-winners.ensures.never (map (λ k. pattern_at ps k) p.patterns.items) is.table at bare)
          w.strike_out.ensures.never w.strike_out.ensures.struck w.strike_out.ensures.kept w.strike_out.ensures.len)
      | else-not-index w ↦
          let won : get_or winners at false ≡ true = get_or_default winners at false c.index.result.now here ∙ sym c.index.ensures ∙ w.if-not-index.false in
          subst (IsStriking p old (at + 1)) (sym w.may_win-is)
          (striking_past p old at c.patterns.may_win c.patterns.invariant (c.in_ok-winners.ensures.rows at won))
    ]
