use Rattle.std.proofs.Common.{◌≡◌, length, vec_len, ap, sym, ◌∙◌, arith}
use Rattle.lrlex_table.proofs.WinnerLemmas.{decided_all, only_part}
use Rattle.lrlex_table.proofs.WorkLemmas.{cells_one}
use Rattle.lrlex_table.proofs.tables.Tables.winner.Goals as goal

pub returns-in-Some-clause-winner : goal.returns-in-Some-clause-winner
returns-in-Some-clause-winner c ps are = (only_part ps c.args.self.now c.in-Some.part.now c.args.text.now c.winner.result c.in-Some.ensures are (c.winner.ensures.scan ps)).winner

pub returns-in-Some-clause-decided : goal.returns-in-Some-clause-decided
returns-in-Some-clause-decided c ps are none =
    decided_all ps c.args.self.now.parts.items c.args.self.now.asked.items c.args.text.now c.winner.result.reach are none
    (only_part ps c.args.self.now c.in-Some.part.now c.args.text.now c.winner.result c.in-Some.ensures are (c.winner.ensures.scan ps)).decided

pub returns-in-Some-clause-looked : goal.returns-in-Some-clause-looked
returns-in-Some-clause-looked c = omega (arith, cells_one c.args.self.now.parts.items c.in-Some.part.now c.args.text.now c.winner.result.reach c.in-Some.ensures c.winner.ensures.reach, c.winner.ensures.looked)

pub returns-in-Some-clause-counted : goal.returns-in-Some-clause-counted
returns-in-Some-clause-counted c less = c.winner.ensures.looked ∙ sym (cells_one c.args.self.now.parts.items c.in-Some.part.now c.args.text.now c.winner.result.reach c.in-Some.ensures c.winner.ensures.reach)

pub returns-in-Some-clause-most : goal.returns-in-Some-clause-most
returns-in-Some-clause-most c =
    let some : vec_len c.args.self.now.parts ≡ 1 = omega (arith, ap length c.in-Some.ensures, c.args.self.now.parts.ok.0) in
    let one = cells_one c.args.self.now.parts.items c.in-Some.part.now c.args.text.now c.winner.result.reach c.in-Some.ensures c.winner.ensures.reach in
    rw some (omega (arith, one))

pub returns-clause-winner : goal.returns-clause-winner
returns-clause-winner c ps are = (c.winner_of_parts.ensures.scan ps are).winner

pub returns-clause-decided : goal.returns-clause-decided
returns-clause-decided c ps are none =
    decided_all ps c.args.self.now.parts.items c.args.self.now.asked.items c.args.text.now c.winner_of_parts.result.reach are none (c.winner_of_parts.ensures.scan ps are).decided
