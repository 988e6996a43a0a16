use Rattle.std.proofs.Common.{◌≡◌, ◌+◌, max, take, get_or, vec_len, ap, ◌∙◌, arith}
use Rattle.std.proofs.lemmas.List.{take_more}
use Rattle.lrlex_definition.specs.StateTables.{most_tables}
use Rattle.lrlex_definition.proofs.MostLemmas.{most_more}
use Rattle.lrlex_definition.proofs.state_tables.most_tables.Goals as goal

pub lists-preserved : goal.lists-preserved
lists-preserved c =
    let lists = c.args.lists.now in
    let i = c.lists.of_list-index in
    let t = c.of_list-item.result in
    let more : most_tables (take (i + 1) lists) ≡ max (most_tables (take i lists)) (vec_len (get_or lists i t).parts) =
    ap most_tables (take_more lists i t c.lists-test.true) ∙ most_more (take i lists) (get_or lists i t) in
    omega (arith, more, c.max-most.ensures, c.lists.invariant, c.count.ensures, ap (λ x. vec_len x.parts) c.of_list-item.is)
