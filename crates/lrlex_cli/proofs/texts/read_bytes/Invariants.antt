-- `bytes` has what was read so far.
use Rattle.std.specs.Io.KnownBytes.{Consumes}
use Rattle.lrlex_cli.proofs.texts.read_bytes.Given as goal

abbrev pub invariant-loop : goal.invariant-loop
invariant-loop g l = Consumes (g.R.Read.remaining l.initial.reader) (g.R.Read.remaining l.reader) l.bytes.items
