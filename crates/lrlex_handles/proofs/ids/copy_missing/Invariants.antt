use Rattle.std.proofs.Common.{◌≡◌, map, take}
use Rattle.lrlex_rules.specs.RuleParts.{as_rule}
use Rattle.lrlex_handles.specs.Buffers.{filled}
use Rattle.lrlex_handles.specs.NamedIds.{is_missing}
use Rattle.lrlex_handles.proofs.ids.copy_missing.Given as goal

-- those of the names so far are written
abbrev pub invariant-loop-i : goal.invariant-loop-i
invariant-loop-i l = l.missing ≡ filled (λ e _. is_missing (map (as_rule (λ n. n)) l.rules) e.name.now) (take l.i l.ids) l.fn.missing
