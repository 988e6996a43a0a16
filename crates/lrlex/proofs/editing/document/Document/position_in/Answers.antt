use Rattle.std.proofs.Common.{◌≡◌, ◌∙◌, ap, subst, sym}
use Rattle.lrlex_positions.specs.Lines.{HasPosition}
use Rattle.lrlex_positions.specs.Positions.{position_of}
use Rattle.lrlex.specs.LexRun.{Run}
use Rattle.lrlex.proofs.editing.document.Document.position_in.Goals as goal

pub returns-clause-fits : goal.returns-clause-fits
returns-clause-fits g c has =
    let same : c.deref.result.now ≡ c.args.self.now.text = c.deref.ensures ∙ ap (λ (v : Run _ _). v.text) c.self.view_is in
    c.position_at.ensures.fits (subst (λ text. HasPosition text c.args.byte) (sym same) has) ∙ ap (λ text. position_of c.args.encoding text c.args.byte) same
