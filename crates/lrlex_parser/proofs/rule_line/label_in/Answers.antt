use Rattle.std.proofs.Common.{lit<, sym, ◌∙◌}
use Rattle.lrlex_parser.proofs.Angles.{quoted_start}
use Rattle.lrlex_parser.proofs.rule_line.label_in.Goals as goal
use Rattle.lrlex_parser.proofs.rule_line.label_in.Goals.{then-is_quoted_by-via-then-is_quoted_by, then-is_quoted_by-via-else-is_quoted_by+then-is_quoted_by-2}

pub range-name-requires-clause-start_boundary : goal.range-name-requires-clause-start_boundary
range-name-requires-clause-start_boundary c _ =
    elim c.then-is_quoted_by.branch [
      | then-is_quoted_by-via-then-is_quoted_by w ↦ quoted_start c.args.part.now 39 (lit< tt) c.utf8.part (sym c.is_quoted_by.ensures ∙ w.if-is_quoted_by.true)
      | then-is_quoted_by-via-else-is_quoted_by+then-is_quoted_by-2 w ↦ quoted_start c.args.part.now 34 (lit< tt) c.utf8.part (sym w.is_quoted_by-else-is_quoted_by.ensures ∙ w.if-is_quoted_by-2.true)
    ]
