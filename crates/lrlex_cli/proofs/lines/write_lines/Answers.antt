use Rattle.std.proofs.Common.{◌≡◌, ◌+◌, map, take, drop, flat_map, sym, ap, arith}
use Rattle.std.proofs.lemmas.List.{take_all}
use Rattle.lrlex.specs.Views.{definition_by, item_of}
use Rattle.lrlex_cli.specs.Lines.{line}
use Rattle.lrlex_cli.proofs.LineLemmas.{said_next, said_rest}
use Rattle.lrlex_cli.proofs.WritingLemmas.{up_to_as, up_to_more, up_to_fails, up_to_end, writes_cut, front_as}
use Rattle.lrlex_cli.proofs.lines.write_lines.Goals as goal

pub returns-in_err-pass_line : goal.returns-in_err-pass_line
returns-in_err-pass_line g c =
    let said = line (definition_by g.S.Numbered.number c.args.table.now).rules c.args.text.now in
    let see = item_of g.S.Numbered.number g.X.Lexeme.seen in
    let xs = c.args.items.now in
    let k = c.loop-item.item-index in
    writes_cut _ _ _ _ (flat_map said (map see (drop (k + 1) xs))) _ c.from_residual.ensures.0
    (said_rest said see xs (k + 1))
    (front_as _ _ _ _ (sym (said_next said see xs k c.item-item.result (omega (arith, c.loop-item-test.true)) c.item-item.is))
    (up_to_fails _ _ _ _ _ _ c.loop-item.invariant c.in_err-pass_line.ensures))

pub loop-item-preserved : goal.loop-item-preserved
loop-item-preserved g c =
    let said = line (definition_by g.S.Numbered.number c.args.table.now).rules c.args.text.now in
    let see = item_of g.S.Numbered.number g.X.Lexeme.seen in
    up_to_as _ _ _ _ _ (sym (said_next said see c.args.items.now c.loop-item.item-index c.item-item.result (omega (arith, c.loop-item-test.true)) c.item-item.is))
    (up_to_more _ _ _ _ _ _ _ c.loop-item.invariant c.in_ok-pass_line.ensures)

pub returns : goal.returns
returns g c =
    let said = line (definition_by g.S.Numbered.number c.args.table.now).rules c.args.text.now in
    let see = item_of g.S.Numbered.number g.X.Lexeme.seen in
    let xs = c.args.items.now in
    let whole : take c.loop-item.item-index xs ≡ xs = take_all c.loop-item.item-index xs (omega (arith, c.loop-item-test.false)) in
    up_to_end _ _ _ _ _ _ _ (ap (λ l. flat_map said (map see l)) whole) c.loop-item.invariant c.flush.ensures.written
