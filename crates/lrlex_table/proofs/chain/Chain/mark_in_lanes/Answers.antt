use Rattle.std.proofs.Common.{drop, sym, ◌∙◌, subst}
use Rattle.lrlex_table.specs.Chain.{BeginsIn}
use Rattle.lrlex_table.proofs.ChainLemmas.{joined_marks}
use Rattle.lrlex_table.proofs.chain.Chain.mark_in_lanes.Goals as goal
use Rattle.lrlex_table.proofs.chain.Chain.mark_in_lanes.Goals.{in-Some-start_of, in-None}

pub mark_both-count-requires-clause-begins_later : goal.mark_both-count-requires-clause-begins_later
mark_both-count-requires-clause-begins_later c t l is =
    let self = c.args.self.now in
    elim c.match-start_of.branch [
      | in-Some-start_of w ↦ subst (BeginsIn t l self) (sym (w.later-is ∙ w.in-Some-start_of.ensures.row)) (is.0 0 w.in-Some-start_of.ensures.within)
      | in-None w ↦ subst (BeginsIn t l self) (sym w.later-is) (c.requires.begins t l is)
    ]

pub returns-clause-marks : goal.returns-clause-marks
returns-clause-marks c t l is =
    let both = c.mark_both-count in
    joined_marks t l c.args.self.now c.args.text.now c.args.from both.new.marks both.result.0 c.in-Some.apart (drop c.args.half both.new.marks) both.result.1 c.join.new.marks c.join.result c.join.ensures.joined
    (both.ensures.first t l is) (both.ensures.second t l is)
