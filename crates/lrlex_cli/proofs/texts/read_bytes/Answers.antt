use Rattle.std.proofs.Common.{rules, ◌≡◌, ◌<◌, ◌++◌, length, take, sym, subst, ap, ◌∙◌, append-nil}
use Rattle.std.specs.Io.KnownBytes.{Consumes}
use Rattle.std.proofs.KnownBytes.{Consumes-nil, Consumes-trans}
use Rattle.lrlex_cli.proofs.texts.read_bytes.Goals as goal

pub loop-init : goal.loop-init
loop-init g c = subst (Consumes _ _) (sym c.new-bytes.ensures.items) (Consumes-nil _)

pub returns-in-Ok-eq0 : goal.returns-in-Ok-eq0
returns-in-Ok-eq0 g c =
    let none : c.loop.bytes.items ++ take c.in-Ok-eq0.field-0 c.read.new.buf ≡ c.loop.bytes.items =
    ap (λ k. c.loop.bytes.items ++ take k c.read.new.buf) c.in-Ok-eq0.field-0-test ∙ append-nil _ in
    let room : 0 < length c.read.new.buf = search rules in (
      subst (Consumes _ _) none (Consumes-trans _ _ _ _ _ c.loop.invariant c.in-Ok-eq0.ensures.bytes.0),
      c.in-Ok-eq0.ensures.bytes.1 c.in-Ok-eq0.field-0-test room,
    )

pub loop-preserved : goal.loop-preserved
loop-preserved g c =
    subst (Consumes _ _) (sym c.in_ok-extend_from_slice-in-Ok.ensures.items)
    (Consumes-trans _ _ _ _ _ c.loop.invariant c.in-Ok.ensures.bytes.0)
