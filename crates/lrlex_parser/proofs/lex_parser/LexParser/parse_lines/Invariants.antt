use Rattle.std.proofs.Common.{List, map, take}
use Rattle.lrlex_parser.specs.Event.{Event}
use Rattle.lrlex_parser.specs.Outcome.{Settings, events_after, line_event}
use Rattle.lrlex_parser.specs.LexParser.{Represents, Suits, HitAlike, refused_of, as_piece}
use Rattle.lrlex_parser.proofs.lex_parser.LexParser.parse_lines.Given as goal

-- whatever events the builder began with, it has those of the lines so far too, if the settings name the same of these lines as the builder does
abbrev pub invariant-loop-line : goal.invariant-loop-line
invariant-loop-line g l =
    (s : Settings) → Suits s l.flags g.StorageT.Numbered.greatest → (events : List Event) → Represents g.StorageT.Numbered.number l.flags l.fn.self events → HitAlike s.refused (refused_of l.self) l.lines l.line-index
    → Represents g.StorageT.Numbered.number l.flags l.self (events_after (line_event s) events (map as_piece (take l.line-index l.lines)))
