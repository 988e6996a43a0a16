use Rattle.std.proofs.Common.{◌≡◌, ◌∙◌, ap, subst, sym}
use Rattle.lrlex.specs.Document.{lexed_bytes}
use Rattle.lrlex_positions.specs.Lines.{HasPosition}
use Rattle.lrlex_positions.specs.Positions.{position_of}
use Rattle.lrlex_handles.proofs.documents.offsets.offset_by.Goals as goal

pub returns-clause-inverse : goal.returns-clause-inverse
returns-clause-inverse c at has is =
    let same : c.of_text-document.result.text ≡ lexed_bytes c.args.it.text = c.of_text-document.ensures.text in
    c.offset_at.ensures.inverse at (subst (λ text. HasPosition text at) (sym same) has) (ap (λ text. position_of c.args.encoding text at) same ∙ is)
