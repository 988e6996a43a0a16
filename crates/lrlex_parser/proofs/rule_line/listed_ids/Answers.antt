use Rattle.std.proofs.Common.{◌≡◌, ◌∙◌, sym, List, ℕ, ap}
use Rattle.std.specs.Prelude.{codes}
use Rattle.lrlex_parser.specs.LexParser.{as_states}
use Rattle.lrlex_parser.specs.Text.{same_text}
use Rattle.lrlex_parser.specs.RuleLine.{state_ids, listed_ids, listed_names}
use Rattle.lrlex_rules.proofs.PatternLemmas.{if_ok}
use Rattle.lrlex_parser.proofs.Lists.{listed_by, listed_lone, not_true}
use Rattle.lrlex_parser.proofs.rule_line.listed_ids.Goals as goal
use Rattle.lrlex_parser.proofs.rule_line.listed_ids.Goals.{then-is_some-via-then-is_some, then-is_some-via-else-is_some+then-ne}

pub returns-then-is_some : goal.returns-then-is_some
returns-then-is_some c =
    let same : state_ids (as_states c.args.states.now) (listed_names c.args.names.now) ≡ listed_ids (as_states c.args.states.now) (listed_names c.args.names.now) =
    elim c.then-is_some.branch [
      | then-is_some-via-then-is_some w ↦ listed_by (as_states c.args.states.now) c.args.names.now c.next_listed.result.0.now c.next_listed.result.1 c.next_listed.ensures.names (sym c.is_some.ensures ∙ w.if-is_some.true)
      | then-is_some-via-else-is_some+then-ne w ↦ listed_lone (as_states c.args.states.now) c.args.names.now c.next_listed.result.0.now c.next_listed.result.1 c.next_listed.ensures.names (sym c.is_some.ensures ∙ w.if-is_some.false) (ap (λ (x : List ℕ). same_text x (codes "*")) (sym w.trim_text.ensures.value) ∙ not_true _ (sym w.ne.ensures ∙ w.if-ne.true))
    ] in
    if_ok c.state_ids.result (λ found h. h ∙ same) c.state_ids.ensures
