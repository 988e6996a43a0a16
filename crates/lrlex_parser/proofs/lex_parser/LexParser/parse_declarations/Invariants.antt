use Rattle.std.proofs.Common.{List, map, take}
use Rattle.std.specs.List.{flat_map}
use Rattle.lrlex_parser.specs.Event.{Event}
use Rattle.lrlex_parser.specs.Declaration.{state_event, declared_by}
use Rattle.lrlex_parser.specs.Outcome.{events_after}
use Rattle.lrlex_parser.specs.LexParser.{Reads, as_piece}
use Rattle.lrlex_parser.proofs.lex_parser.LexParser.parse_declarations.Given as goal

-- whatever events the builder began with, it has those of the lines so far too
abbrev pub invariant-loop-line : goal.invariant-loop-line
invariant-loop-line g l = Reads g.StorageT.Numbered.number l.fn.self l.self (λ (events : List Event). events_after state_event events (flat_map declared_by (map as_piece (take l.line-index l.lines))))
