use Rattle.std.proofs.Common.{sym, ◌∙◌}
use Rattle.lrlex_table.specs.Table.{next_rows}
use Rattle.lrlex_table.specs.Reach.{IsText}
use Rattle.lrlex_table.proofs.ByteLemmas.{are_bytes}
use Rattle.lrlex_table.proofs.LongestLemmas.{none_in_row, longest_in_row, decided_in_row}
use Rattle.lrlex_table.proofs.table.Table.scan_of.Goals as goal

pub returns-in-Some-clause-winner : goal.returns-in-Some-clause-winner
returns-in-Some-clause-winner c ps serves =
    let t = c.args.self.now in
    let text = c.args.text.now in
    let walk = c.args.walk in
    let is : IsText text = record { bytes = are_bytes text c.type_inv.text; utf8 = c.utf8.text } in
    longest_in_row (next_rows t) t.wins.items t.start ps text walk.reach walk.len walk.row serves c.requires.ends c.requires.within is c.in-Some.pattern (sym c.win_of-won.ensures ∙ c.in-Some.is)

pub returns-in-Some-clause-decided : goal.returns-in-Some-clause-decided
returns-in-Some-clause-decided c ps serves =
    let t = c.args.self.now in
    let text = c.args.text.now in
    let walk = c.args.walk in
    let is : IsText text = record { bytes = are_bytes text c.type_inv.text; utf8 = c.utf8.text } in
    decided_in_row (next_rows t) t.wins.items t.start ps text walk.reach walk.len walk.row serves c.requires.ends c.requires.within is

pub returns-in-None-clause-winner : goal.returns-in-None-clause-winner
returns-in-None-clause-winner c ps serves =
    let t = c.args.self.now in
    let text = c.args.text.now in
    let walk = c.args.walk in
    let is : IsText text = record { bytes = are_bytes text c.type_inv.text; utf8 = c.utf8.text } in
    none_in_row (next_rows t) t.wins.items t.start ps text walk.reach walk.len walk.row serves c.requires.ends c.requires.within is (sym c.win_of-won.ensures ∙ c.in-None.is)

pub returns-in-None-clause-decided : goal.returns-in-None-clause-decided
returns-in-None-clause-decided c ps serves =
    let t = c.args.self.now in
    let text = c.args.text.now in
    let walk = c.args.walk in
    let is : IsText text = record { bytes = are_bytes text c.type_inv.text; utf8 = c.utf8.text } in
    decided_in_row (next_rows t) t.wins.items t.start ps text walk.reach walk.len walk.row serves c.requires.ends c.requires.within is
