use Rattle.std.proofs.Common.{sym, subst, IsUtf8}
use Rattle.std.proofs.lemmas.Str.{IsCharBoundary-from_drop}
use Rattle.lrlex_table.specs.Linear.{HasWorkedTo}
use Rattle.lrlex_table.specs.declared.dead_ends.DeadEnds.{DeadEnds}
use Rattle.lrlex_table.proofs.dead_ends.DeadEnds.found_at.Goals as goal
use Rattle.lrlex_table.proofs.dead_ends.DeadEnds.found_at.Goals.{then-has_more, else-has_more, then-is_spent, else-is_spent}

pub look_ahead-requires-clause-boundary : goal.look_ahead-requires-clause-boundary
look_ahead-requires-clause-boundary c = IsCharBoundary-from_drop c.args.self.now.text.now c.args.place c.requires.inside (subst IsUtf8 c.requires.rest c.utf8.rest)

pub returns-clause-linear : goal.returns-clause-linear
returns-clause-linear c most from before =
    let Work : DeadEnds → Type 0 = λ e. HasWorkedTo most from c.args.place e in
    let counted : Work c.if-has_more.self = elim c.if-has_more.branch [
      | then-has_more w ↦ subst Work (sym w.self-is) (record { onward = before.onward; walks = before.walks; ahead = before.ahead; near = before.near })
      | else-has_more w ↦ subst Work (sym w.self-is) before
    ] in
    let passed : Work c.pass_to.new.self = c.pass_to.ensures.linear most from c.args.place counted in
    let looked : Work c.if-is_spent.self = elim c.if-is_spent.branch [
      | then-is_spent w ↦ subst Work (sym w.self-is) (w.look_ahead.ensures.linear most from passed)
      | else-is_spent w ↦ subst Work (sym w.self-is) passed
    ] in
    c.ahead_at.ensures.linear most from c.args.place looked
