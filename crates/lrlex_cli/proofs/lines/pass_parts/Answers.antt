-- The line is the name and a blank, and then the text and U+000A.
use Rattle.std.proofs.Common.{[], ◌∷◌, ◌++◌, ap, ◌∙◌, append_assoc}
use Rattle.lrlex_cli.proofs.WritingLemmas.{passes_cut, passes_both, passes_as}
use Rattle.lrlex_cli.proofs.lines.pass_parts.Goals as goal

pub returns-in_err-pass_both : goal.returns-in_err-pass_both
returns-in_err-pass_both g c =
    let w = c.args.waiting.now.items in
    let name = c.args.name.now in
    let matched = c.args.matched.now in
    passes_cut _ _ _ (w ++ (name ++ 32 ∷ [])) (matched ++ 10 ∷ []) _ _ c.from_residual.ensures.0
    (append_assoc w (name ++ 32 ∷ []) (matched ++ 10 ∷ []) ∙ ap (λ l. w ++ l) (append_assoc name (32 ∷ []) (matched ++ 10 ∷ [])))
    c.in_err-pass_both.ensures

pub returns : goal.returns
returns g c =
    let w = c.args.waiting.now.items in
    let name = c.args.name.now in
    let matched = c.args.matched.now in
    passes_as _ _ _ _ _ _ (ap (λ l. w ++ l) (append_assoc name (32 ∷ []) (matched ++ 10 ∷ [])))
    (passes_both _ _ _ _ w (name ++ 32 ∷ []) (matched ++ 10 ∷ []) _ _ c.in_ok-pass_both.ensures c.pass_both-2.ensures)
