-- The warnings of the start states so far are added.
use Rattle.std.proofs.Common.{◌≡◌, ◌++◌, map, take}
use Rattle.std.specs.Prelude.{All, flat_map}
use Rattle.lrlex_report.specs.Warnings.{as_told, SpanFits, state_warnings}
use Rattle.lrlex_report.proofs.warnings.push_states.Given as goal

abbrev pub invariant-loop-state : goal.invariant-loop-state
invariant-loop-state g l = record {
  told : map as_told l.told.items ≡ map as_told l.initial.told.items ++ flat_map (state_warnings g.S.Numbered.number l.table l.fn.rules) (take l.state-index l.states);
  fit : All (SpanFits l.fn.rules) l.initial.told.items → All (SpanFits l.fn.rules) l.told.items;
}
