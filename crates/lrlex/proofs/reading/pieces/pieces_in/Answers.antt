-- The ends of the row are found among boundaries, which rise.
use Rattle.std.proofs.Common.{◌≡◌, ◌-◌, true, sym, ◌∙◌, arith}
use Rattle.lrlex_table.specs.Reach.{IsText}
use Rattle.lrlex_table.proofs.ByteLemmas.{are_bytes}
use Rattle.lrlex_rules.specs.Active.{is_state}
use Rattle.lrlex.specs.Pieces.{ArePiecesIn}
use Rattle.lrlex_definition.specs.RuleTable.{definition_by}
use Rattle.lrlex.proofs.KnownLemmas.{sorted}
use Rattle.lrlex.proofs.PeakLemmas.{tiles_are}
use Rattle.lrlex.proofs.PieceLemmas.{some_up_to, low_and_high, exactly_these, of_both}
use Rattle.lrlex.proofs.reading.pieces.pieces_in.Goals as goal

pub count_up_to-first-requires : goal.count_up_to-first-requires
count_up_to-first-requires g c =
    let d = definition_by g.S.Numbered.number c.args.table.now in
    let initial : is_state d 0 ≡ true = sym c.is_state.ensures ∙ c.if-not-is_state.false in
    sorted d c.args.text.now c.requires.0 c.args.boundaries.now (c.requires.1.lexed initial)

pub overflow_sub-first : goal.overflow_sub-first
overflow_sub-first g c =
    let d = definition_by g.S.Numbered.number c.args.table.now in
    let text = c.args.text.now in
    let bounds = c.args.boundaries.now in
    let initial : is_state d 0 ≡ true = sym c.is_state.ensures ∙ c.if-not-is_state.false in
    let is : IsText text = record { bytes = are_bytes text c.type_inv.text; utf8 = c.utf8.text } in
    let e = c.count_up_to-first.ensures in
    some_up_to d text c.requires.0 bounds (c.requires.1.lexed initial) is initial c.args.from c.count_up_to-first.result (record { within = e.within; up_to = e.up_to; past = e.past })

pub count_up_to-requires : goal.count_up_to-requires
count_up_to-requires g c =
    let d = definition_by g.S.Numbered.number c.args.table.now in
    let initial : is_state d 0 ≡ true = sym c.is_state.ensures ∙ c.if-not-is_state.false in
    sorted d c.args.text.now c.requires.0 c.args.boundaries.now (c.requires.1.lexed initial)

pub overflow_sub-len : goal.overflow_sub-len
overflow_sub-len g c =
    let d = definition_by g.S.Numbered.number c.args.table.now in
    let initial : is_state d 0 ≡ true = sym c.is_state.ensures ∙ c.if-not-is_state.false in
    omega (arith, c.len.ensures, tiles_are d c.args.text.now c.requires.0 c.args.boundaries.now (c.requires.1.lexed initial))

pub pieces_between-requires-clause-order : goal.pieces_between-requires-clause-order
pieces_between-requires-clause-order g c =
    let d = definition_by g.S.Numbered.number c.args.table.now in
    let bounds = c.args.boundaries.now in
    let initial : is_state d 0 ≡ true = sym c.is_state.ensures ∙ c.if-not-is_state.false in
    let low = c.count_up_to-first.ensures in
    let high = c.count_up_to.ensures in
    let order = low_and_high bounds c.args.from c.args.to c.count_up_to-first.result c.count_up_to.result (sorted d c.args.text.now c.requires.0 bounds (c.requires.1.lexed initial)) (omega (arith, c.if-from-to.false))
    (record { within = low.within; up_to = low.up_to; past = low.past }) (record { within = high.within; up_to = high.up_to; past = high.past }) in
    omega (arith, order, low.within, c.len.ensures, c.min-last.ensures)

pub pieces_between-requires-clause-within : goal.pieces_between-requires-clause-within
pieces_between-requires-clause-within g c =
    let d = definition_by g.S.Numbered.number c.args.table.now in
    let initial : is_state d 0 ≡ true = sym c.is_state.ensures ∙ c.if-not-is_state.false in
    omega (arith, c.len.ensures, c.min-last.ensures, tiles_are d c.args.text.now c.requires.0 c.args.boundaries.now (c.requires.1.lexed initial))

pub returns : goal.returns
returns g c =
    let d = definition_by g.S.Numbered.number c.args.table.now in
    let text = c.args.text.now in
    let bounds = c.args.boundaries.now in
    let initial : is_state d 0 ≡ true = sym c.is_state.ensures ∙ c.if-not-is_state.false in
    let low = c.count_up_to-first.ensures in
    let high = c.count_up_to.ensures in
    let these = exactly_these bounds c.args.from c.args.to c.count_up_to-first.result c.count_up_to.result (sorted d text c.requires.0 bounds (c.requires.1.lexed initial)) (omega (arith, c.if-from-to.false))
    (record { within = low.within; up_to = low.up_to; past = low.past }) (record { within = high.within; up_to = high.up_to; past = high.past }) in
    of_both c.pieces_between.result _ _ (λ pieces. ArePiecesIn d text bounds c.args.from c.args.to pieces.items)
    (λ pieces tiles many. record {
      first = c.count_up_to-first.result - 1;
      tiles = tiles;
      exactly = λ k within. (
        λ has. let row = (these k within).0 has in (row.0, omega (arith, row.1, within, many, c.len.ensures, c.min-last.ensures)),
        λ row. (these k within).1 (row.0, omega (arith, row.1, many, c.len.ensures, c.min-last.ensures)),
      );
    })
    c.pieces_between.ensures.tiles c.pieces_between.ensures.many
