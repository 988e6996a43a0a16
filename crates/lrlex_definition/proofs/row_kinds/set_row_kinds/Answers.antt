use Rattle.std.proofs.Common.{◌≡◌, Some, length, slice_get, refl, ◌∙◌, arith}
use Rattle.std.proofs.lemmas.List.{length-set}
use Rattle.std.proofs.lemmas.Option.{slice_get_read}
use Rattle.lrlex_definition.proofs.RowKindLemmas.{set_all, set_next, set_none}
use Rattle.lrlex_definition.proofs.row_kinds.set_row_kinds.Goals as goal

pub rows-init : goal.rows-init
rows-init g c = (refl, λ old lists chains chain are at. set_none old c.args.rules.now lists chain c.args.rows.now (are.1 chain at))

pub rows-preserved : goal.rows-preserved
rows-preserved g c =
    let rows = c.rows.rows in
    let row = c.rows.row in
    let was = c.index-rows-row.result in
    let here : slice_get rows row ≡ Some was = slice_get_read rows (length rows) row was refl (omega (arith, c.rows-test.true, c.rows.invariant.0)) c.index-rows-row.is in (
      length-set rows row c.with_kind.result ∙ c.rows.invariant.0,
      λ old lists chains chain are at.
          set_next c.args.rules.now lists chain.names.items row rows was c.with_kind.result (c.rows.invariant.1 old lists chains chain are at) here c.with_kind.ensures.list c.with_kind.ensures.rule c.with_kind.ensures.kind,
    )

pub returns : goal.returns
returns g c old lists chains are = (
  λ none. c.rows.invariant.0 ∙ are.0 none,
  λ chain at r w e. set_all c.args.rules.now lists chain c.rows.row c.rows.rows (c.rows.invariant.1 old lists chains chain are at) (omega (arith, c.rows-test.false, c.rows.invariant.0)) r w e,
)

pub bounds-rows-row : goal.bounds-rows-row
bounds-rows-row g c = omega (arith, c.rows-test.true, c.rows.auto.rows)

pub bounds-rows-row-in-rows : goal.bounds-rows-row-in-rows
bounds-rows-row-in-rows g c = omega (arith, c.rows-test.true, c.rows.auto.rows)

pub rows-smaller : goal.rows-smaller
rows-smaller g c = omega (arith, c.rows-test.true)
