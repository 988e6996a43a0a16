-- Lexing again has found the items of the new text, and the lines are theirs.
use Rattle.lrlex.specs.ItemLaws.{FitsText}
use Rattle.lrlex.specs.Views.{definition_of, item_of}
use Rattle.lrlex_cli.proofs.EngineLemmas.{items_end}
use Rattle.lrlex_cli.proofs.LineLemmas.{of_items}
use Rattle.lrlex_cli.proofs.engine.write_relexed.Goals as goal

pub write_lines-written-requires-clause-fit : goal.write_lines-written-requires-clause-fit
write_lines-written-requires-clause-fit g c =
    rw c.items-items.ensures (of_items (FitsText c.args.new.now) (item_of g.L.StorageT.Numbered.number g.L.LexemeT.Lexeme.seen) c.in_ok-lexed.lexed.items
    (c.in_ok-lexed.ensures.laws.items.fit c.utf8.new))

pub returns : goal.returns
returns g c =
    let same = c.in_ok-run.ensures.definition in
    let run = rw same at c.in_ok-lexed.ensures.run in
    let old = g.W.Write.contents c.args.out.now in
    let new = g.W.Write.contents c.write_lines-written.new.out in
    items_end g.L.StorageT.Numbered.number g.L.LexemeT.Lexeme.seen (definition_of g.L.StorageT.Numbered.number c.args.definition.now) c.args.new.now c.items-items.result.now c.in_ok-lexed.lexed.items c.in_ok-lexed.lexed.boundaries
    c.has_error.result old new _ c.ending.result c.items-items.ensures run c.has_error.ensures (rw c.rule_table.ensures at c.write_lines-written.ensures) (λ text h. c.ending.ensures old new text h)
