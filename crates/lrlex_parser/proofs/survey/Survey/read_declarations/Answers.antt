use Rattle.std.proofs.Common.{List, map, subst, refl, get_or}
use Rattle.std.proofs.lemmas.List.{take_all}
use Rattle.lrlex_parser.specs.declared.text.Line.{Line}
use Rattle.lrlex_parser.specs.AllFaults.{declaration_events, all_after}
use Rattle.lrlex_parser.specs.LexParser.{as_piece}
use Rattle.lrlex_parser.specs.Survey.{IsCalm}
use Rattle.lrlex_parser.proofs.SurveyRuns.{all_after_more, declares}
use Rattle.lrlex_parser.proofs.survey.Survey.read_declarations.Goals as goal

pub loop-line-preserved : goal.loop-line-preserved
loop-line-preserved g c = record {
  adds = λ flags events was.
      let so_far = c.loop-line.invariant.adds flags events was in
      let line = as_piece (get_or c.args.lines.now c.loop-line.line-index _) in
      subst (IsCalm g.StorageT.Numbered.number flags c.pass_over.new.self) (all_after_more declaration_events events c.args.lines.now c.loop-line.line-index _ c.loop-line-test.true)
      (c.in_ok-pass_over.ensures.passes flags _ (declares g.StorageT.Numbered.number flags c.loop-line.self _ _ line so_far refl (c.in_ok-parse_declaration.ensures flags so_far.0.since so_far.0.parser)));
  calm = c.in_ok-pass_over.ensures.calm;
}

pub returns-clause-adds : goal.returns-clause-adds
returns-clause-adds g c flags events was =
    subst (λ (lines : List Line). IsCalm g.StorageT.Numbered.number flags c.loop-line.self (all_after declaration_events events (map as_piece lines)))
    (take_all c.loop-line.line-index c.args.lines.now c.loop-line-test.false) (c.loop-line.invariant.adds flags events was)
