-- The lines of the items so far were written, but for what waits.
use Rattle.std.proofs.Common.{map, take}
use Rattle.lrlex.specs.Views.{definition_by, item_of}
use Rattle.lrlex_cli.specs.Lines.{lines}
use Rattle.lrlex_cli.specs.Writing.{WritesUpTo}
use Rattle.lrlex_cli.proofs.lines.write_lines.Given as goal

abbrev pub invariant-loop-item : goal.invariant-loop-item
invariant-loop-item g l =
    WritesUpTo (g.W.Write.contents l.initial.out) (g.W.Write.contents l.out)
    (lines (definition_by g.S.Numbered.number l.table).rules l.text
    (map (item_of g.S.Numbered.number g.X.Lexeme.seen) (take l.item-index l.items)))
    l.waiting.items
