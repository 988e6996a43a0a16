use Rattle.std.proofs.Common.{◌≡◌, [], map}
use Rattle.std.specs.Prelude.{fold}
use Rattle.lrlex_lsp.specs.Uris.{led_to}
use Rattle.lrlex_lsp.proofs.uris.plain.Given as goal

abbrev pub invariant-loop-part : goal.invariant-loop-part
invariant-loop-part l = l.plain.items ≡ fold led_to [] (map (λ part. part.now) l.yielded)
