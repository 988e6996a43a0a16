use Rattle.std.proofs.Common.{◌≡◌, ℕ, ◌+◌, ◌≤◌, List, length, map}
use Rattle.std.specs.Option.{option_copied, option_map_or, IfSome}
use Rattle.lrlex_base.specs.Classes.{is_white_space}
use Rattle.lrlex_rules.specs.declared.flags.LexFlags.{LexFlags}
use Rattle.lrlex_parser.specs.Text.{cut, pieces_left}
use Rattle.lrlex_parser.specs.Event.{Event}
use Rattle.lrlex_parser.specs.Declaration.{state_event, declared_name}
use Rattle.lrlex_parser.specs.Outcome.{events_after}
use Rattle.lrlex_parser.specs.LexParser.{Represents, as_piece}
use Rattle.lrlex_parser.proofs.lex_parser.LexParser.declare_start_states.Given as goal

-- whatever events the builder began with, it has those of the names so far too, and the names that are left say the rest
abbrev pub invariant-loop-left : goal.invariant-loop-left
invariant-loop-left g l = record {
  reads : (flags : LexFlags) (events : List Event) → Represents g.StorageT.Numbered.number flags l.fn.self events → (so_far : List Event) × Represents g.StorageT.Numbered.number flags l.self so_far
      × (events_after state_event so_far (map (declared_name l.exclusive) (pieces_left is_white_space l.end (option_copied l.left))) ≡ events_after state_event events (map (declared_name l.exclusive) (cut is_white_space (as_piece l.names))));
  short : IfSome (option_copied l.left) (λ rest. length rest ≤ l.end);
}

abbrev pub decreases-loop-left : goal.decreases-loop-left
decreases-loop-left g l = option_map_or (λ (rest : List ℕ). length rest + 1) (option_copied l.left) 0
