-- `body` has what was read so far.
use Rattle.std.proofs.Common.{◌-◌, ◌≤◌, length}
use Rattle.std.specs.Io.KnownBytes.{Consumes}
use Rattle.lrlex_lsp.proofs.framing.read_body.Given as goal

abbrev pub invariant-body : goal.invariant-body
invariant-body g l = (length l.body.items ≤ l.size) × Consumes (g.R.Read.remaining l.initial.reader) (g.R.Read.remaining l.reader) l.body.items

abbrev pub decreases-body : goal.decreases-body
decreases-body g l = l.size - length l.body.items
