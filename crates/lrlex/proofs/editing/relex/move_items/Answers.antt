use Rattle.std.proofs.Common.{◌-◌, drop, sym, ap, ◌∙◌, subst, arith}
use Rattle.std.proofs.lemmas.List.{length-map, length-drop}
use Rattle.lrlex_rules.specs.Tiling.{rebased}
use Rattle.lrlex.specs.Moves.{IsMovable}
use Rattle.lrlex.specs.Views.{item_of}
use Rattle.lrlex.proofs.PutLemmas.{all_stay, move_none, move_all, move_at, move_one}
use Rattle.lrlex.proofs.editing.relex.move_items.Goals as goal

pub returns-then-from-to : goal.returns-then-from-to
returns-then-from-to g c = all_stay (item_of g.S.Numbered.number g.X.Lexeme.seen) c.args.from c.args.to c.args.items.now c.args.first c.if-from-to.true

pub items-init : goal.items-init
items-init g c = move_none (item_of g.S.Numbered.number g.X.Lexeme.seen) (rebased c.args.from c.args.to) c.args.items.now c.args.first

pub moved-requires : goal.moved-requires
moved-requires g c =
    let view = item_of g.S.Numbered.number g.X.Lexeme.seen in
    let old = c.args.items.now in
    let first = c.args.first in
    let x = c.index-items-index.result in
    subst (IsMovable c.args.from c.args.to)
    (sym (move_at view (rebased c.args.from c.args.to) old first c.items.items c.items.index (omega arith) (omega arith) (omega arith) c.items.invariant x c.index-items-index.is) ∙ ap view c.index-items-index.is)
    (c.requires.movable (c.items.index - first) (view x) (omega (arith, length-map (drop first old) view, length-drop first old)))

pub items-preserved : goal.items-preserved
items-preserved g c =
    let view = item_of g.S.Numbered.number g.X.Lexeme.seen in
    let f = rebased c.args.from c.args.to in
    let x = c.index-items-index.result in
    move_one view f c.args.items.now c.args.first c.items.items c.items.index (omega arith) (omega arith) (omega arith) c.items.invariant x c.moved.result
    c.index-items-index.is (c.moved.ensures ∙ ap (λ y. f (view y)) (sym c.index-items-index.is))

pub returns : goal.returns
returns g c = move_all (item_of g.S.Numbered.number g.X.Lexeme.seen) (rebased c.args.from c.args.to) c.args.items.now c.args.first c.items.items c.items.index (omega arith) c.items.invariant
