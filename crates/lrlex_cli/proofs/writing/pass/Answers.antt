-- What waited is written, and then the bytes, for which there is no room.
use Rattle.std.proofs.Common.{◌∙◌, subst}
use Rattle.std.specs.Io.KnownBytes.{Appends}
use Rattle.lrlex_cli.proofs.WritingLemmas.{none_waits}
use Rattle.lrlex_cli.proofs.writing.pass.Goals as goal

pub returns : goal.returns
returns g c =
    let waited = c.waits.ensures.same c.if-waits.false in
    none_waits _ _ _ _ _ _ _ (subst (Appends _ _) waited c.in_ok-flush.ensures.written) c.write_bytes.ensures
    (c.waits-2.ensures.same c.if-waits-2.false ∙ c.in_ok-flush.ensures.none)
