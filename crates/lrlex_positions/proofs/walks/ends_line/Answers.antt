use Rattle.std.proofs.Common.{◌≡◌, ◌+◌, ◌||◌, true, false, eqb, drop, get_or, sym, ◌∙◌, ap, eq-eqb}
use Rattle.std.proofs.lemmas.Bool.{ne_eqb}
use Rattle.lrlex_positions.specs.Lines.{is_lone_return}
use Rattle.lrlex_positions.proofs.LineLemmas.{ends_with}
use Rattle.lrlex_positions.proofs.walks.ends_line.Goals as goal

pub returns-then-bytes-at-eq10 : goal.returns-then-bytes-at-eq10
returns-then-bytes-at-eq10 c =
    let text = c.args.bytes.now in
    let b = get_or text c.args.at 0 in
    let is : eqb b 10 ≡ true = eq-eqb b 10 c.if-bytes-at-eq10.true in
    is ∙ sym (ends_with text c.args.at c.requires ∙ ap (λ v. v || is_lone_return b (drop (c.args.at + 1) text)) is)

pub returns-else-bytes-at-eq10 : goal.returns-else-bytes-at-eq10
returns-else-bytes-at-eq10 c =
    let text = c.args.bytes.now in
    let b = get_or text c.args.at 0 in
    let not_it : eqb b 10 ≡ false = ne_eqb b 10 c.if-bytes-at-eq10.false in
    c.is_lone_return.ensures ∙ sym (ends_with text c.args.at c.requires ∙ ap (λ v. v || is_lone_return b (drop (c.args.at + 1) text)) not_it)
