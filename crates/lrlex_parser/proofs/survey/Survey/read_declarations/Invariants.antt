use Rattle.std.proofs.Common.{◌≡◌, false, List, map, take}
use Rattle.lrlex_parser.specs.Event.{Event}
use Rattle.lrlex_parser.specs.AllFaults.{declaration_events, all_after}
use Rattle.lrlex_parser.specs.LexParser.{as_piece}
use Rattle.lrlex_parser.specs.Survey.{AddsEvents}
use Rattle.lrlex_parser.proofs.survey.Survey.read_declarations.Given as goal

-- whatever events the survey began with, it has those of the lines so far too
abbrev pub invariant-loop-line : goal.invariant-loop-line
invariant-loop-line g l = record {
  adds : AddsEvents g.StorageT.Numbered.number l.fn.self l.self (λ (events : List Event). all_after declaration_events events (map as_piece (take l.line-index l.lines)));
  calm : l.self.parser.is_refused ≡ false;
}
