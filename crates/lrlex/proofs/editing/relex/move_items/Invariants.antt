use Rattle.std.proofs.Common.{◌≡◌, map}
use Rattle.lrlex_rules.specs.Tiling.{rebased}
use Rattle.lrlex.specs.Views.{item_of}
use Rattle.lrlex.proofs.PutLemmas.{moved_up_to}
use Rattle.lrlex.proofs.editing.relex.move_items.Given as goal

abbrev pub invariant-items : goal.invariant-items
invariant-items g l =
    map (item_of g.S.Numbered.number g.X.Lexeme.seen) l.items
    ≡ moved_up_to (item_of g.S.Numbered.number g.X.Lexeme.seen) (rebased l.from l.to) l.fn.items l.first l.index
