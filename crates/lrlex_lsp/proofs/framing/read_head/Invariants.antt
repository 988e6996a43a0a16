-- `head` has what was read so far.
use Rattle.std.specs.Io.KnownBytes.{Consumes}
use Rattle.lrlex_lsp.proofs.framing.read_head.Given as goal

abbrev pub invariant-head : goal.invariant-head
invariant-head g l = Consumes (g.R.Read.remaining l.initial.reader) (g.R.Read.remaining l.reader) l.head.items
