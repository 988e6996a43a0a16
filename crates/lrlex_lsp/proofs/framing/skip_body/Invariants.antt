-- `done` was passed over so far, and the rest of the body is left.
use Rattle.std.proofs.Common.{ℕ, ◌≡◌, ◌+◌, List, length}
use Rattle.std.specs.Io.KnownBytes.{Consumes}
use Rattle.lrlex_lsp.proofs.framing.skip_body.Given as goal

abbrev pub invariant-loop-left : goal.invariant-loop-left
invariant-loop-left g l = (done : List ℕ) × (length done + l.left ≡ l.size)
    × Consumes (g.R.Read.remaining l.initial.reader) (g.R.Read.remaining l.reader) done

abbrev pub decreases-loop-left : goal.decreases-loop-left
decreases-loop-left g l = l.left
