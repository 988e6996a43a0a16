use Rattle.std.proofs.Common.{◌≡◌, ◌∙◌, ap, subst, sym}
use Rattle.lrlex_positions.specs.Lines.{HasPosition}
use Rattle.lrlex_positions.specs.Positions.{position_of, IsLastUpTo}
use Rattle.lrlex.specs.LexRun.{Run}
use Rattle.lrlex.proofs.editing.document.Document.offset_at.Goals as goal

pub returns-clause-last : goal.returns-clause-last
returns-clause-last g c =
    let same : c.deref.result.now ≡ c.args.self.now.text = c.deref.ensures ∙ ap (λ (v : Run _ _). v.text) c.self.view_is in
    subst (λ text. IsLastUpTo c.args.encoding text c.args.position c.offset_at.result) same c.offset_at.ensures.last

pub returns-clause-inverse : goal.returns-clause-inverse
returns-clause-inverse g c at fits e =
    let same : c.deref.result.now ≡ c.args.self.now.text = c.deref.ensures ∙ ap (λ (v : Run _ _). v.text) c.self.view_is in
    c.offset_at.ensures.inverse at (subst (λ text. HasPosition text at) (sym same) fits) (ap (λ text. position_of c.args.encoding text at) same ∙ e)
