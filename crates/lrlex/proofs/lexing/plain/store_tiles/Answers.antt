use Rattle.std.proofs.Common.{◌≡◌, ◌+◌, ◌-◌, ◌^◌, ◌<◌, ◌++◌, List, None, true, if◌then◌else◌, suc, length, map, Some, slice_get, option_map, refl, sym, ap, ap₂, ◌∙◌, subst, inl, inr, arith, append-nil, append_assoc}
use Rattle.std.specs.Option.{option_and_then}
use Rattle.std.proofs.lemmas.Bool.{cases_lt}
use Rattle.lrlex_table.specs.Ahead.{begin_at}
use Rattle.lrlex_table.specs.Chain.{end_of, row_of}
use Rattle.lrlex.specs.Plain.{AllArePlain, id_at, lexemes_of}
use Rattle.lrlex_definition.specs.RowKinds.{own_kind}
use Rattle.lrlex_rules.specs.Tiling.{Item, lexeme_of}
use Rattle.lrlex.specs.Views.{item_of}
use Rattle.lrlex_definition.specs.declared.row_kinds.RowKind.{RowKind}
use Rattle.lrlex.proofs.ManyLemmas.{end_read, kind_read}
use Rattle.lrlex.proofs.PlainLemmas.{gives_own}
use Rattle.lrlex.proofs.lexing.plain.store_tiles.Goals as goal

pub tiles-init : goal.tiles-init
tiles-init g c = record {
  within = omega arith;
  begin = refl;
  plain = λ k lt. absurd (omega (arith, lt));
  items = sym (append-nil _);
  len = omega arith;
  capacity = refl;
}

pub tiles-preserved : goal.tiles-preserved
tiles-preserved g c =
    let number = g.S.Numbered.number in
    let seen = g.X.Lexeme.seen in
    let from = c.args.found.from in
    let place = c.args.place in
    let marks = c.args.found.marks.now in
    let kinds = c.args.kinds.now in
    let given = map (item_of number seen) c.args.items.items in
    let at = c.tiles.at in
    let w = c.tiles.invariant in
    let kind = c.in-Some.kind in
    let within : at < length marks = omega (arith, c.tiles-test.true) in
    let ends : c.end.result ≡ end_of marks at = end_read marks at c.index-marks-at.result c.end.result within c.index-marks-at.is c.end.ensures in
    let read : slice_get kinds (row_of marks at) ≡ Some kind =
    kind_read kinds marks at c.index-marks-at.result c.row.result c.get.result kind within c.index-marks-at.is c.row.ensures (sym c.copied.ensures ∙ c.in-Some.is) c.get.ensures.lookup.0 (c.get.ensures.lookup.4 (omega arith)) in
    let id : (if kind.named then Some (number kind.id) else None) ≡ id_at number kinds (row_of marks at) =
    sym (gives_own number kind.id kind.named) ∙ sym (ap (option_and_then (λ (v : RowKind _). option_map number (own_kind v).id)) read) in
    let one : suc at ≡ at + 1 = omega arith in
    let lexeme : List Item = lexeme_of (id_at number kinds (row_of marks at)) (begin_at from place marks at) (from + end_of marks at - begin_at from place marks at) in
    record {
      within = omega (arith, within);
      begin = ap (λ e. from + e) ends ∙ ap (begin_at from place marks) one;
      plain = λ k lt. elim (cases_lt k at) [
        | inl before ↦ w.plain k before
        | inr behind ↦
            let here : at ≡ k = omega (arith, lt, behind) in
            subst (λ j. (v : RowKind _) × (slice_get kinds (row_of marks j) ≡ Some v) × (v.list ≡ c.args.list) × (v.plain ≡ true)) here (kind, read, c.if-kind-list.false, c.if-not-kind.false)
      ];
      items = c.store_lexeme.ensures.items
          ∙ ap₂ (λ xs o. xs ++ lexeme_of o c.tiles.begin (from + c.end.result - c.tiles.begin)) w.items id
          ∙ ap₂ (λ b e. (given ++ lexemes_of number kinds from place marks at) ++ lexeme_of (id_at number kinds (row_of marks at)) b (from + e - b)) w.begin ends
          ∙ append_assoc given (lexemes_of number kinds from place marks at) lexeme
          ∙ ap (λ n. given ++ lexemes_of number kinds from place marks n) one;
      len = omega (arith, c.store_lexeme.ensures.len, w.len);
      capacity = c.store_lexeme.ensures.capacity ∙ w.capacity;
    }

pub overflow_add-end : goal.overflow_add-end
overflow_add-end g c =
    let from = c.args.found.from in
    let place = c.args.place in
    let marks = c.args.found.marks.now in
    let at = c.tiles.at in
    let kind = c.in-Some.kind in
    let within : at < length marks = omega (arith, c.tiles-test.true) in
    let ends : c.end.result ≡ end_of marks at = end_read marks at c.index-marks-at.result c.end.result within c.index-marks-at.is c.end.ensures in
    let read : slice_get c.args.kinds.now (row_of marks at) ≡ Some kind =
    kind_read c.args.kinds.now marks at c.index-marks-at.result c.row.result c.get.result kind within c.index-marks-at.is c.row.ensures (sym c.copied.ensures ∙ c.in-Some.is) c.get.ensures.lookup.0 (c.get.ensures.lookup.4 (omega arith)) in
    let tile : (begin_at from place marks at < from + end_of marks at) × (from + end_of marks at < 2 ^ 64) = c.requires.tiles at kind within read c.if-kind-list.false in
    omega (arith, ends, tile.1)

pub overflow_sub-end : goal.overflow_sub-end
overflow_sub-end g c =
    let from = c.args.found.from in
    let place = c.args.place in
    let marks = c.args.found.marks.now in
    let at = c.tiles.at in
    let kind = c.in-Some.kind in
    let within : at < length marks = omega (arith, c.tiles-test.true) in
    let ends : c.end.result ≡ end_of marks at = end_read marks at c.index-marks-at.result c.end.result within c.index-marks-at.is c.end.ensures in
    let read : slice_get c.args.kinds.now (row_of marks at) ≡ Some kind =
    kind_read c.args.kinds.now marks at c.index-marks-at.result c.row.result c.get.result kind within c.index-marks-at.is c.row.ensures (sym c.copied.ensures ∙ c.in-Some.is) c.get.ensures.lookup.0 (c.get.ensures.lookup.4 (omega arith)) in
    let tile : (begin_at from place marks at < from + end_of marks at) × (from + end_of marks at < 2 ^ 64) = c.requires.tiles at kind within read c.if-kind-list.false in
    omega (arith, ends, tile.0, c.tiles.invariant.begin)

pub store_lexeme-requires-clause-fits : goal.store_lexeme-requires-clause-fits
store_lexeme-requires-clause-fits g c =
    let from = c.args.found.from in
    let place = c.args.place in
    let marks = c.args.found.marks.now in
    let at = c.tiles.at in
    let kind = c.in-Some.kind in
    let within : at < length marks = omega (arith, c.tiles-test.true) in
    let ends : c.end.result ≡ end_of marks at = end_read marks at c.index-marks-at.result c.end.result within c.index-marks-at.is c.end.ensures in
    let read : slice_get c.args.kinds.now (row_of marks at) ≡ Some kind =
    kind_read c.args.kinds.now marks at c.index-marks-at.result c.row.result c.get.result kind within c.index-marks-at.is c.row.ensures (sym c.copied.ensures ∙ c.in-Some.is) c.get.ensures.lookup.0 (c.get.ensures.lookup.4 (omega arith)) in
    let tile : (begin_at from place marks at < from + end_of marks at) × (from + end_of marks at < 2 ^ 64) = c.requires.tiles at kind within read c.if-kind-list.false in
    omega (arith, ends, tile.0, tile.1, c.tiles.invariant.begin)

pub returns-clause-plain : goal.returns-clause-plain
returns-clause-plain g c =
    let all : c.tiles.at ≡ length c.args.found.marks.now = omega (arith, c.tiles.invariant.within, c.tiles-test.false) in
    subst (AllArePlain c.args.kinds.now c.args.list c.args.found.marks.now) all c.tiles.invariant.plain

pub returns-clause-items : goal.returns-clause-items
returns-clause-items g c =
    let all : c.tiles.at ≡ length c.args.found.marks.now = omega (arith, c.tiles.invariant.within, c.tiles-test.false) in
    c.tiles.invariant.items ∙ ap (λ n. map (item_of g.S.Numbered.number g.X.Lexeme.seen) c.args.items.items ++ lexemes_of g.S.Numbered.number c.args.kinds.now c.args.found.from c.args.place c.args.found.marks.now n) all
