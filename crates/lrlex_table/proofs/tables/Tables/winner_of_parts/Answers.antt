use Rattle.std.proofs.Common.{◌≡◌, ◌<◌, ◌≤◌, ◌+◌, ◌*◌, ◌^◌, ◌||◌, List, take, length, vec_len, refl, sym, ap, ◌∙◌, subst, arith}
use Rattle.std.proofs.lemmas.List.{take_all, get_or_default}
use Rattle.std.proofs.lemmas.List.Elements.{All-get_or}
use Rattle.regex.specs.Patterns.{Re}
use Rattle.lrlex_table.specs.declared.merged_tables.Part.{Part}
use Rattle.lrlex_table.specs.Tables.{is_among, is_tabled, IsPartOf, AreTablesOf, IsTableScanOf}
use Rattle.lrlex_table.proofs.WinnerLemmas.{scan_start, none_before, tabled_more, scan_of_fewer}
use Rattle.lrlex_table.specs.Work.{cells, reach_of}
use Rattle.lrlex_table.proofs.WorkLemmas.{reach_looks, cells_more, grown}
use Rattle.lrlex_table.proofs.tables.Tables.winner_of_parts.Goals as goal

pub parts-init : goal.parts-init
parts-init c =
    (λ ps are. scan_start ps (is_tabled (take 0 c.args.self.now.parts.items)) c.args.text.now (none_before c.args.self.now.parts.items) c.utf8.text, tt, omega arith, λ less. refl, omega arith)

pub parts-preserved : goal.parts-preserved
parts-preserved c =
    let parts = c.args.self.now.parts.items in
    let at = c.parts.at in
    let part = c.index.result.now in
    let lt : at < length parts = omega (arith, c.parts-test.true, c.len-at-end.ensures, c.args.self.now.parts.ok.0) in
    let sees : (ps : List Re) → AreTablesOf ps c.args.self.now → IsTableScanOf ps (is_tabled (take (at + 1) parts)) c.args.text.now c.combined-scan.result
    = λ ps are.
    let is : IsPartOf ps 0 (length ps) part = subst (IsPartOf ps 0 (length ps)) (sym c.index.ensures) (All-get_or (IsPartOf ps 0 (length ps)) parts at part lt are.are) in
    scan_of_fewer ps (λ k. is_tabled (take at parts) k || is_among part.patterns.items k) (is_tabled (take (at + 1) parts)) c.args.text.now c.combined-scan.result
    (λ k some. ap (λ (p : Part). is_tabled (take at parts) k || is_among p.patterns.items k) c.index.ensures ∙ tabled_more parts at part lt k some)
    (c.combined-scan.ensures.scan ps (is_tabled (take at parts)) (is_among part.patterns.items) c.args.text.now (c.parts.invariant.0 ps are) (c.winner.ensures.scan ps is)) in
    let text = c.args.text.now in
    let one : c.winner.result.reach ≡ reach_of part.table text = reach_looks part.table text c.winner.result.reach c.winner.ensures.reach in
    let more : cells (take (at + 1) parts) text ≡ cells (take at parts) text + c.winner.result.reach =
    cells_more parts text at part lt ∙ ap (λ (p : Part). cells (take at parts) text + reach_of p.table text) (sym (c.index.ensures ∙ get_or_default parts at _ part lt)) ∙ ap (λ n. cells (take at parts) text + n) (sym one) in
    let inv = c.parts.invariant in (
      sees,
      c.combined-scan.ensures.past inv.1 c.winner.ensures.past,
      omega (arith, more, c.combined-scan.ensures.looked, inv.2, c.winner.ensures.looked),
      λ less.
          let before : c.parts.scan.looked ≡ cells (take at parts) text = inv.3 (omega (arith, more, less)) in
          c.combined-scan.ensures.counted (omega (arith, more, less, before, c.winner.ensures.looked)) ∙ omega (arith, more, before, c.winner.ensures.looked),
      subst (λ n. n ≤ (at + 1) * c.combined-scan.result.reach) (sym more)
          (grown at (cells (take at parts) text) c.parts.scan.reach c.combined-scan.result.reach c.winner.result.reach inv.4 c.combined-scan.ensures.reach.0 c.combined-scan.ensures.reach.1),
    )

whole : (c : goal.After-parts) → take c.parts.at c.args.self.now.parts.items ≡ c.args.self.now.parts.items
whole c = take_all c.parts.at c.args.self.now.parts.items (omega (arith, c.parts-test.false, c.len-at-end.ensures, c.args.self.now.parts.ok.0))

pub returns-clause-looked : goal.returns-clause-looked
returns-clause-looked c = subst (λ xs. c.parts.scan.looked ≤ cells xs c.args.text.now) (whole c) c.parts.invariant.2

pub returns-clause-counted : goal.returns-clause-counted
returns-clause-counted c =
    subst (λ xs. cells xs c.args.text.now < 2 ^ 64 → c.parts.scan.looked ≡ cells xs c.args.text.now) (whole c) c.parts.invariant.3

pub returns-clause-most : goal.returns-clause-most
returns-clause-most c =
    let parts = c.args.self.now.parts in
    let at : c.parts.at ≡ vec_len parts = omega (arith, c.parts-test.false, c.parts-test, c.len-at-end.ensures, parts.ok.0) in
    subst (λ n. cells parts.items c.args.text.now ≤ n * c.parts.scan.reach) at (subst (λ xs. cells xs c.args.text.now ≤ c.parts.at * c.parts.scan.reach) (whole c) c.parts.invariant.4)

pub returns-clause-scan : goal.returns-clause-scan
returns-clause-scan c ps are =
    let parts = c.args.self.now.parts.items in
    subst (λ xs. IsTableScanOf ps (is_tabled xs) c.args.text.now c.parts.scan)
    (take_all c.parts.at parts (omega (arith, c.parts-test.false, c.len-at-end.ensures, c.args.self.now.parts.ok.0)))
    (c.parts.invariant.0 ps are)
