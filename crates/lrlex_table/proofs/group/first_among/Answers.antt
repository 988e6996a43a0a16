use Rattle.std.proofs.Common.{sym, ap, ◌∙◌}
use Rattle.std.proofs.lemmas.List.{take_all}
use Rattle.lrlex_table.specs.Group.{wins_in, first_among}
use Rattle.lrlex_table.proofs.GroupLemmas.{first_more, first_found}
use Rattle.lrlex_table.proofs.group.first_among.Goals as goal

pub returns-then-wins_at : goal.returns-then-wins_at
returns-then-wins_at c =
    sym (first_found (wins_in c.args.cache.now c.args.places.now) c.args.live_rows.now c.live_rows.at (0, 0) c.live_rows-test.true c.live_rows.invariant
    (sym c.wins_at.ensures ∙ c.if-wins_at.true))

pub live_rows-preserved : goal.live_rows-preserved
live_rows-preserved c =
    first_more (wins_in c.args.cache.now c.args.places.now) c.args.live_rows.now c.live_rows.at (0, 0) c.live_rows-test.true c.live_rows.invariant
    (sym c.wins_at.ensures ∙ c.if-wins_at.false)

pub returns : goal.returns
returns c =
    sym c.live_rows.invariant ∙ ap (first_among (wins_in c.args.cache.now c.args.places.now)) (take_all c.live_rows.at c.args.live_rows.now c.live_rows-test.false)
