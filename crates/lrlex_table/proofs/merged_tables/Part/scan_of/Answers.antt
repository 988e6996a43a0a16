use Rattle.lrlex_table.proofs.WinnerLemmas.{decided_part}
use Rattle.lrlex_table.proofs.merged_tables.Part.scan_of.Goals as goal

pub returns-clause-scan : goal.returns-clause-scan
returns-clause-scan c ps is = record {
  winner = c.in_list.ensures.winner ps c.args.text.now is c.utf8.text (c.scan_of-scan.ensures.winner _ is.table);
  decided = decided_part ps c.args.self.now.patterns.items c.args.text.now c.scan_of-scan.result.reach (c.scan_of-scan.ensures.decided _ is.table);
}
