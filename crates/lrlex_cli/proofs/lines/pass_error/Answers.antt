-- The line is the text with the byte, and then U+000A.
use Rattle.std.proofs.Common.{[], ◌∷◌, ◌++◌, ap₂, ◌∙◌, append_assoc}
use Rattle.lrlex_cli.proofs.WritingLemmas.{passes_cut, passes_both, up_to_as, front_as}
use Rattle.lrlex.specs.Errors.{stop_text}
use Rattle.lrlex_cli.proofs.lines.pass_error.Goals as goal

pub returns-in_err-pass_both : goal.returns-in_err-pass_both
returns-in_err-pass_both g c =
    let w = c.args.waiting.now.items in
    let text = ap₂ (λ a b. w ++ (a ++ b)) c.as_bytes.ensures.value (c.as_bytes-2.ensures.value ∙ c.format-number.ensures.text) in
    passes_cut _ _ _ (w ++ stop_text c.args.at) (10 ∷ []) _ _ c.from_residual.ensures.0 (append_assoc w (stop_text c.args.at) (10 ∷ []))
    (front_as _ _ _ _ text c.in_err-pass_both.ensures)

pub returns : goal.returns
returns g c =
    let w = c.args.waiting.now.items in
    let text = ap₂ (λ a b. w ++ (a ++ b)) c.as_bytes.ensures.value (c.as_bytes-2.ensures.value ∙ c.format-number.ensures.text) in
    passes_both _ _ _ _ w (stop_text c.args.at) (10 ∷ []) _ _ (up_to_as _ _ _ _ _ text c.in_ok-pass_both.ensures) c.pass.ensures
