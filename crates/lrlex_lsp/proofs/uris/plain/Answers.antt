use Rattle.std.proofs.Common.{rules, ◌∙◌, ap, []}
use Rattle.std.specs.Prelude.{fold}
use Rattle.std.proofs.lemmas.Iterator.Consumers.{YieldsList-end}
use Rattle.std.proofs.lemmas.Iterator.Splits.{YieldsList-from_slice_split}
use Rattle.lrlex_lsp.specs.Uris.{is_slash, led_to}
use Rattle.lrlex_lsp.proofs.uris.plain.Goals as goal

pub returns : goal.returns
returns c =
    let end = YieldsList-end (YieldsList-from_slice_split _ is_slash c.args.path.now (search rules) (search rules) (search rules) (λ x b q k. search rules)) c.loop-part.yielded _ c.loop-part.yielded_by _ _ c.in-None.is c.next.ensures.steps in
    c.loop-part.invariant ∙ ap (fold led_to []) end.0
