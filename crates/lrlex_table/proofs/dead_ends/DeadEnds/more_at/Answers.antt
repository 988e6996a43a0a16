use Rattle.std.proofs.Common.{◌∙◌}
use Rattle.lrlex_table.proofs.KnownLemmas.{found_vain}
use Rattle.lrlex_table.proofs.dead_ends.DeadEnds.more_at.Goals as goal

pub returns-clause-vain : goal.returns-clause-vain
returns-clause-vain c =
    let self = c.args.self.now in
    found_vain self.known self.lists.now self.text.now c.args.list c.args.part c.args.row c.args.place c.copied.result self.right (c.copied.ensures ∙ c.get.ensures.value)
