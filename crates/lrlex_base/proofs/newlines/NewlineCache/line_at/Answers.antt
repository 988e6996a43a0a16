use Rattle.std.proofs.Common.{◌≡◌, ◌≤◌, ◌∙◌, length, ap, arith}
use Rattle.lrlex_base.specs.Places.{newlines_from, starts_after}
use Rattle.lrlex_base.proofs.NewlineLemmas.{starts_of_view}
use Rattle.lrlex_base.proofs.newlines.NewlineCache.line_at.Goals as goal

pub returns : goal.returns
returns g c text breaks =
    let S = c.self.inside.starts.items in
    let within : c.args.byte ≤ length text = omega (arith, c.requires, breaks.0) in
    let is : S ≡ starts_after (newlines_from 0 text) = starts_of_view S c.args.self.now.newlines text c.self.invariant.0 (ap (λ v. v.newlines) c.self.view_is) breaks.1 in
    c.lines_begun.ensures.count text within (c.deref.ensures.value ∙ is)
