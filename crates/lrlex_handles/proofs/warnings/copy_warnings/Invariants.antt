use Rattle.std.proofs.Common.{◌≡◌, take}
use Rattle.lrlex_handles.specs.Buffers.{filled}
use Rattle.lrlex_handles.specs.Warnings.{warning_by}
use Rattle.lrlex_handles.proofs.warnings.copy_warnings.Given as goal

-- the warnings so far are written, and the cursor is one of the text
abbrev pub invariant-loop-i : goal.invariant-loop-i
invariant-loop-i l = (l.out ≡ filled (λ w _. warning_by l.rules w) (take l.i l.warnings) l.fn.out) × (l.cursor ≡ l.rules)
