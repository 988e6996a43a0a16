use Rattle.std.proofs.Common.{◌≡◌, ◌<◌, ◌+◌, ◌||◌, List, take, length, vec_len, refl, sym, ap, ◌∙◌, subst, arith}
use Rattle.std.specs.HashMap.{hash_map_len}
use Rattle.std.proofs.lemmas.List.{take_all, get_or_default}
use Rattle.std.proofs.lemmas.Option.{slice_get_read}
use Rattle.std.proofs.lemmas.List.Elements.{All-get_or}
use Rattle.regex.specs.Patterns.{Re}
use Rattle.lrlex_table.specs.declared.merged_tables.Part.{Part}
use Rattle.lrlex_table.specs.DeadEnds.{table_at}
use Rattle.lrlex_table.specs.Tables.{is_among, is_tabled, IsPartOf, AreTablesOf, IsTableScanOf, len_of}
use Rattle.lrlex_table.specs.Work.{cells, reach_of, IsLook}
use Rattle.lrlex_table.proofs.WorkLemmas.{cells_more, look_more, look_twice_more}
use Rattle.lrlex_table.proofs.KnownLemmas.{not_before}
use Rattle.lrlex_table.proofs.WinnerLemmas.{scan_start, none_before, tabled_more, scan_of_fewer}
use Rattle.lrlex_table.proofs.DeadEndLemmas.{table_there}
use Rattle.lrlex_table.proofs.dead_ends.DeadEnds.winner_of_parts_at.Goals as goal

pub parts-init : goal.parts-init
parts-init c =
    let parts = c.args.tables.now.parts.items in
    (λ ps are. scan_start ps (is_tabled (take 0 parts)) c.args.rest.now (none_before parts) c.utf8.rest, tt, refl, refl, (refl, refl, refl), λ was. was, λ ps are kept. (omega arith, omega arith), λ ps are kept none. (omega arith, omega arith), λ part row here le. refl)

pub parts-preserved : goal.parts-preserved
parts-preserved c =
    let tables = c.args.tables.now in
    let parts = tables.parts.items in
    let rest = c.args.rest.now in
    let at = c.parts.at in
    let part = c.index-part.result.now in
    let lt : at < length parts = omega (arith, c.parts-test.true, c.len-at-end.ensures, tables.parts.ok.0) in
    let sees : (ps : List Re) → AreTablesOf ps tables → IsTableScanOf ps (is_tabled (take (at + 1) parts)) rest c.combined-scan.result
    = λ ps are.
    let is : IsPartOf ps 0 (length ps) part = subst (IsPartOf ps 0 (length ps)) (sym c.index-part.ensures) (All-get_or (IsPartOf ps 0 (length ps)) parts at part lt are.are) in
    scan_of_fewer ps (λ k. is_tabled (take at parts) k || is_among part.patterns.items k) (is_tabled (take (at + 1) parts)) rest c.combined-scan.result
    (λ k some. ap (λ (p : Part). is_tabled (take at parts) k || is_among p.patterns.items k) c.index-part.ensures ∙ tabled_more parts at part lt k some)
    (c.combined-scan.ensures.scan ps (is_tabled (take at parts)) (is_among part.patterns.items) rest (c.parts.invariant.0 ps are) (c.part_winner_at.ensures.scan ps is)) in
    let inv = c.parts.invariant in
    let is_part : (ps : List Re) → AreTablesOf ps tables → IsPartOf ps 0 (length ps) part
    = λ ps are. subst (IsPartOf ps 0 (length ps)) (sym c.index-part.ensures) (All-get_or (IsPartOf ps 0 (length ps)) parts at part lt are.are) in
    let old = hash_map_len c.args.self.now.known in
    let now = hash_map_len c.parts.self.known in
    let after = hash_map_len c.part_winner_at.new.self.known in
    let one = c.part_winner_at.result in
    let both = c.combined-scan.result in
    let len = c.combined-scan.ensures.len in (
      sees,
      c.combined-scan.ensures.past inv.1 c.part_winner_at.ensures.past,
      c.part_winner_at.ensures.lists ∙ inv.2,
      c.part_winner_at.ensures.text ∙ inv.3,
      (c.part_winner_at.ensures.looked ∙ inv.4.0, c.part_winner_at.ensures.ahead ∙ inv.4.1, c.part_winner_at.ensures.chain ∙ inv.4.2),
      λ was. c.part_winner_at.ensures.forgot (inv.5 was),
      λ ps are kept.
          look_twice_more at (len_of c.parts.scan.winner) (len_of one.winner) (len_of both.winner) c.parts.scan.looked one.looked both.looked old now after len.0 len.1 c.combined-scan.ensures.looked
          (inv.6 ps are (not_before _ _ c.part_winner_at.ensures.forgot kept)) (c.part_winner_at.ensures.work ps (is_part ps are) kept),
      λ ps are kept none.
          let more : cells (take (at + 1) parts) rest ≡ cells (take at parts) rest + reach_of part.table rest =
          cells_more parts rest at part lt ∙ ap (λ (p : Part). cells (take at parts) rest + reach_of p.table rest) (sym (c.index-part.ensures ∙ get_or_default parts at _ part lt)) in
          look_more at (len_of c.parts.scan.winner) (len_of one.winner) (len_of both.winner) (cells (take at parts) rest) (reach_of part.table rest) (cells (take (at + 1) parts) rest) old now after len.0 len.1
          (omega (arith, more))
          (inv.7 ps are (not_before _ _ c.part_winner_at.ensures.forgot kept) none)
          (c.part_winner_at.ensures.fresh ps (is_part ps are) kept (λ row here le. inv.8 at row here (omega arith) ∙ none at row here le)),
      λ other row here le. c.part_winner_at.ensures.other_parts c.args.list other row here (λ same. absurd (omega (arith, same))) ∙ inv.8 other row here (omega arith),
    )

pub returns-clause-scan : goal.returns-clause-scan
returns-clause-scan c ps are =
    let tables = c.args.tables.now in
    subst (λ xs. IsTableScanOf ps (is_tabled xs) c.args.rest.now c.parts.scan)
    (take_all c.parts.at tables.parts.items (omega (arith, c.parts-test.false, c.len-at-end.ensures, tables.parts.ok.0)))
    (c.parts.invariant.0 ps are)

pub returns-clause-work : goal.returns-clause-work
returns-clause-work c ps are kept =
    let tables = c.args.tables.now in
    let all : c.parts.at ≡ vec_len tables.parts = omega (arith, c.parts-test.false, c.len-at-end.ensures, tables.parts.ok.0) in
    subst (λ n. IsLook 2 n (len_of c.parts.scan.winner) c.parts.scan.looked (hash_map_len c.args.self.now.known) (hash_map_len c.parts.self.known)) all (c.parts.invariant.6 ps are kept)

pub returns-clause-fresh : goal.returns-clause-fresh
returns-clause-fresh c ps are kept none =
    let tables = c.args.tables.now in
    let all : c.parts.at ≡ vec_len tables.parts = omega (arith, c.parts-test.false, c.len-at-end.ensures, tables.parts.ok.0) in
    let whole = take_all c.parts.at tables.parts.items (omega (arith, c.parts-test.false, c.len-at-end.ensures, tables.parts.ok.0)) in
    subst (λ n. IsLook 1 n (len_of c.parts.scan.winner) (cells tables.parts.items c.args.rest.now) (hash_map_len c.args.self.now.known) (hash_map_len c.parts.self.known)) all
    (subst (λ xs. IsLook 1 c.parts.at (len_of c.parts.scan.winner) (cells xs c.args.rest.now) (hash_map_len c.args.self.now.known) (hash_map_len c.parts.self.known)) whole (c.parts.invariant.7 ps are kept none))

pub part_winner_at-requires-clause-part : goal.part_winner_at-requires-clause-part
part_winner_at-requires-clause-part c =
    let tables = c.args.tables.now in
    let parts = tables.parts.items in
    let part = c.index-part.result.now in
    let lt : c.parts.at < length parts = omega (arith, c.parts-test.true, c.len-at-end.ensures, tables.parts.ok.0) in
    ap (λ x. table_at x.now c.args.list c.parts.at) c.parts.invariant.2
    ∙ table_there c.args.self.now.lists.now c.args.list c.parts.at tables part c.requires.tables (slice_get_read parts (length parts) c.parts.at part refl lt c.index-part.ensures)
