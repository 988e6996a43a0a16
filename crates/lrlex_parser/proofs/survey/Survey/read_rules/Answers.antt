use Rattle.std.proofs.Common.{List, false, subst, refl}
use Rattle.std.proofs.lemmas.List.{take_all}
use Rattle.lrlex_parser.specs.declared.text.Line.{Line}
use Rattle.lrlex_parser.specs.Survey.{AddsRules}
use Rattle.lrlex_parser.proofs.SurveyRuns.{rules_more}
use Rattle.lrlex_parser.proofs.survey.Survey.read_rules.Goals as goal

pub loop-line-init : goal.loop-line-init
loop-line-init g c = record {
  adds = (λ o. false, λ asked e events was. was);
  calm = c.requires.calm;
}

pub loop-line-preserved : goal.loop-line-preserved
loop-line-preserved g c = record {
  adds = rules_more g.StorageT.Numbered.number c.args.flags.now g.StorageT.Numbered.greatest c.args.self.now c.loop-line.self _ c.pass_over.new.self c.args.lines.now c.loop-line.line-index _ c.loop-line-test.true c.requires.apart c.loop-line.invariant.adds refl c.in_ok-parse_line.ensures c.in_ok-pass_over.ensures.passes;
  calm = c.in_ok-pass_over.ensures.calm;
}

pub returns-clause-adds : goal.returns-clause-adds
returns-clause-adds g c =
    subst (λ (lines : List Line). AddsRules g.StorageT.Numbered.number c.args.flags.now g.StorageT.Numbered.greatest c.args.self.now c.loop-line.self lines)
    (take_all c.loop-line.line-index c.args.lines.now c.loop-line-test.false) c.loop-line.invariant.adds
