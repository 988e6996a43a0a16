use Rattle.std.proofs.Common.{◌≡◌, ◌+◌, ◌*◌, ◌≤◌, sym, ap, ◌∙◌, subst, arith}
use Rattle.std.specs.HashMap.{hash_map_len}
use Rattle.std.proofs.lemmas.Bool.{ltb-false}
use Rattle.lrlex_table.specs.DeadEnds.{IsStop}
use Rattle.lrlex_table.specs.Tables.{len_of}
use Rattle.lrlex_table.specs.Work.{reach_of}
use Rattle.lrlex_table.proofs.WinnerLemmas.{among_places, decided_part}
use Rattle.lrlex_table.proofs.KnownLemmas.{stop_is_reach}
use Rattle.lrlex_table.proofs.dead_ends.DeadEnds.part_winner_at.Goals as goal
use Rattle.lrlex_table.proofs.dead_ends.DeadEnds.part_winner_at.Goals.{then-is_far, else-is_far}

pub returns-clause-scan : goal.returns-clause-scan
returns-clause-scan c ps is = record {
  winner = c.in_list.ensures.winner ps c.args.rest.now is c.utf8.rest (c.scan_of-scan.ensures.winner _ is.table);
  decided = decided_part ps c.args.part.now.patterns.items c.args.rest.now c.scan_of-scan.result.reach (c.scan_of-scan.ensures.decided _ is.table);
}

pub returns-clause-work : goal.returns-clause-work
returns-clause-work c ps is kept =
    let len : len_of c.in_list.result ≡ c.walk-looked.result.0.len = c.in_list.ensures.len (among_places ps c.args.part.now.patterns.items c.args.rest.now c.scan_of-scan.result.winner (c.scan_of-scan.ensures.winner _ is.table)) ∙ c.scan_of-scan.ensures.len in
    let old = hash_map_len c.args.self.now.known in
    elim c.if-is_far.branch [
      | then-is_far w ↦
          let more : c.walk-looked.result.1 + 64 * old ≤ c.walk-looked.result.0.len + 129 + 64 * hash_map_len w.keep.new.self.known = w.keep.ensures.kept (sym (ap (λ s. s.forgot) w.self-is) ∙ kept) in
          let grown : old ≤ hash_map_len w.keep.new.self.known = w.keep.ensures.grown (sym (ap (λ s. s.forgot) w.self-is) ∙ kept) in (
            omega (arith, grown, ap (λ s. hash_map_len s.known) w.self-is),
            omega (arith, len, w.all-is, w.saturating_mul-all.ensures, ap (λ s. hash_map_len s.known) w.self-is, more),
          )
      | else-is_far w ↦
          let near = ltb-false _ _ (sym c.is_far.ensures ∙ w.if-is_far.false) in
          (omega (arith, ap (λ s. hash_map_len s.known) w.self-is), omega (arith, len, w.all-is, ap (λ s. hash_map_len s.known) w.self-is, c.walk-looked.ensures.before, c.scan_of-scan.ensures.reach, c.scan_of-scan.ensures.len, near))
    ]

pub returns-clause-fresh : goal.returns-clause-fresh
returns-clause-fresh c ps is kept none =
    let len : len_of c.in_list.result ≡ c.walk-looked.result.0.len = c.in_list.ensures.len (among_places ps c.args.part.now.patterns.items c.args.rest.now c.scan_of-scan.result.winner (c.scan_of-scan.ensures.winner _ is.table)) ∙ c.scan_of-scan.ensures.len in
    let old = hash_map_len c.args.self.now.known in
    let all : c.walk-looked.result.1 ≡ reach_of c.args.part.now.table c.args.rest.now = stop_is_reach c.args.self.now.known c.args.part.now.table c.args.list c.args.index c.args.place c.args.rest.now c.walk-looked.result.1 (subst (λ xs. IsStop c.args.self.now.known c.args.list c.args.index c.args.part.now.table c.args.place xs c.walk-looked.result.1) c.as_bytes.ensures.value c.walk-looked.ensures.looked) none in
    elim c.if-is_far.branch [
      | then-is_far w ↦
          let more : c.walk-looked.result.1 + 64 * old ≤ c.walk-looked.result.0.len + 129 + 64 * hash_map_len w.keep.new.self.known = w.keep.ensures.kept (sym (ap (λ s. s.forgot) w.self-is) ∙ kept) in
          let grown : old ≤ hash_map_len w.keep.new.self.known = w.keep.ensures.grown (sym (ap (λ s. s.forgot) w.self-is) ∙ kept) in
          (omega (arith, grown, ap (λ s. hash_map_len s.known) w.self-is), omega (arith, len, all, ap (λ s. hash_map_len s.known) w.self-is, more))
      | else-is_far w ↦
          let near = ltb-false _ _ (sym c.is_far.ensures ∙ w.if-is_far.false) in
          (omega (arith, ap (λ s. hash_map_len s.known) w.self-is), omega (arith, len, all, ap (λ s. hash_map_len s.known) w.self-is, c.walk-looked.ensures.before, c.scan_of-scan.ensures.reach, c.scan_of-scan.ensures.len, near))
    ]

pub returns-clause-looks : goal.returns-clause-looks
returns-clause-looks c = (
  c.walk-looked.result.1,
  subst (λ xs. IsStop c.args.self.now.known c.args.list c.args.index c.args.part.now.table c.args.place xs c.walk-looked.result.1) c.as_bytes.ensures.value c.walk-looked.ensures.looked,
  elim c.if-is_far.branch [
    | then-is_far w ↦ omega (arith, w.all-is, w.saturating_mul-all.ensures)
    | else-is_far w ↦ omega (arith, w.all-is)
  ],
)
