use Rattle.std.proofs.Common.{◌≤◌, ◌||◌, arith}
use Rattle.std.proofs.lemmas.Bool.{or_cases}
use Rattle.lrlex_table.proofs.WinnerLemmas.{decided_farther, decided_both}
use Rattle.lrlex_table.proofs.merged_tables.combined.Goals as goal
use Rattle.lrlex_table.proofs.merged_tables.combined.Goals.{then-a-b, else-a-b}

pub returns-clause-scan : goal.returns-clause-scan
returns-clause-scan c ps one other text a b =
    let n = c.if-a-b.reach in
    let first : c.args.a.reach ≤ n = elim c.if-a-b.branch [
      | then-a-b w ↦ omega (arith, w.if-a-b.true, w.reach-is)
      | else-a-b w ↦ omega (arith, w.reach-is)
    ] in
    let second : c.args.b.reach ≤ n = elim c.if-a-b.branch [
      | then-a-b w ↦ omega (arith, w.reach-is)
      | else-a-b w ↦ omega (arith, w.if-a-b.false, w.reach-is)
    ] in
    record {
      winner = c.better.ensures.winner ps one other text a.winner b.winner;
      decided = decided_both ps one other (λ k. one k || other k) text n (decided_farther ps one text c.args.a.reach n first a.decided)
          (decided_farther ps other text c.args.b.reach n second b.decided) (λ k some. or_cases (one k) (other k) some);
    }
