use Rattle.std.proofs.Common.{◌≡◌, ◌∙◌, ap, subst, sym}
use Rattle.lrlex_positions.specs.Lines.{HasPosition}
use Rattle.lrlex_positions.specs.Positions.{position_of}
use Rattle.lrlex.specs.Lexer.{Held}
use Rattle.lrlex.proofs.reading.lexer.LRNonStreamingLexer.position_in.Goals as goal

pub returns-clause-fits : goal.returns-clause-fits
returns-clause-fits g c has =
    let same : c.self.inside.input.text.now ≡ c.args.self.now.text = ap (λ (v : Held _). v.text) c.self.view_is in
    c.position_at.ensures.fits (subst (λ text. HasPosition text c.args.byte) (sym same) has) ∙ ap (λ text. position_of c.args.encoding text c.args.byte) same
