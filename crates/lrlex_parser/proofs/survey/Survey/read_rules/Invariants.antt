use Rattle.std.proofs.Common.{◌≡◌, false, take}
use Rattle.lrlex_parser.specs.Survey.{AddsRules}
use Rattle.lrlex_parser.proofs.survey.Survey.read_rules.Given as goal

-- whatever events the survey began with, it has those of the lines so far too
abbrev pub invariant-loop-line : goal.invariant-loop-line
invariant-loop-line g l = record {
  adds : AddsRules g.StorageT.Numbered.number l.flags g.StorageT.Numbered.greatest l.fn.self l.self (take l.line-index l.lines);
  calm : l.self.parser.is_refused ≡ false;
}
