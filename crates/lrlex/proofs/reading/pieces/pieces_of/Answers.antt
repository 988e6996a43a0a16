use Rattle.std.proofs.Common.{◌≡◌, true, true≢false, length, slice_get, zero-add, sym, ap, ◌∙◌, subst, arith}
use Rattle.lrlex_rules.specs.Active.{is_state}
use Rattle.lrlex_boundaries.specs.Boundaries.{boundary_at}
use Rattle.lrlex.specs.Pieces.{IsPiece, ArePieces}
use Rattle.lrlex_definition.specs.RuleTable.{definition_by}
use Rattle.lrlex.proofs.PeakLemmas.{tiles_are}
use Rattle.lrlex.proofs.PieceLemmas.{of_both}
use Rattle.lrlex.proofs.reading.pieces.pieces_of.Goals as goal

pub returns-then-not-is_state : goal.returns-then-not-is_state
returns-then-not-is_state g c =
    let d = definition_by g.S.Numbered.number c.args.table.now in
    let bounds = c.args.boundaries.now in
    let none = (c.requires.1.stateless (sym c.if-not-is_state.ensures)).boundaries_are in
    record {
      tiles = λ found h. absurd (omega (arith, tiles_are d c.args.text.now found bounds h, ap length none));
      stateless = λ e. c.new.ensures.items;
    }

pub overflow_sub-last : goal.overflow_sub-last
overflow_sub-last g c =
    let d = definition_by g.S.Numbered.number c.args.table.now in
    let initial : is_state d 0 ≡ true = sym c.is_state.ensures ∙ c.if-not-is_state.false in
    omega (arith, c.len-last.ensures, tiles_are d c.args.text.now c.requires.0 c.args.boundaries.now (c.requires.1.lexed initial))

pub pieces_between-requires-clause-within : goal.pieces_between-requires-clause-within
pieces_between-requires-clause-within g c =
    let d = definition_by g.S.Numbered.number c.args.table.now in
    let initial : is_state d 0 ≡ true = sym c.is_state.ensures ∙ c.if-not-is_state.false in
    omega (arith, c.len-last.ensures, tiles_are d c.args.text.now c.requires.0 c.args.boundaries.now (c.requires.1.lexed initial))

pub returns : goal.returns
returns g c =
    let d = definition_by g.S.Numbered.number c.args.table.now in
    let text = c.args.text.now in
    let bounds = c.args.boundaries.now in
    let initial : is_state d 0 ≡ true = sym c.is_state.ensures ∙ c.if-not-is_state.false in
    of_both c.pieces_between.result _ _ (λ pieces. ArePieces d text bounds pieces.items)
    (λ pieces tiles many. record {
      tiles = λ found h. record {
        many = omega (arith, many, c.len-last.ensures, tiles_are d text found bounds h);
        each = λ k t p at there.
            subst (λ n. IsPiece d text (boundary_at bounds n).place t p) (zero-add k)
            (tiles.each found h k t p (ap (slice_get h.cut) (zero-add k) ∙ at) there);
      };
      stateless = λ lacks. absurd (true≢false (sym initial ∙ lacks));
    })
    c.pieces_between.ensures.tiles c.pieces_between.ensures.many
