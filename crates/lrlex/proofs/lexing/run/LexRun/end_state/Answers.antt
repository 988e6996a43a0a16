use Rattle.std.proofs.Common.{◌-◌, length, arith}
use Rattle.lrlex.specs.Views.{definition_of, items_by}
use Rattle.lrlex.proofs.KnownLemmas.{stack_entries}
use Rattle.lrlex.proofs.lexing.run.LexRun.end_state.Goals as goal

pub end_state_of-requires : goal.end_state_of-requires
end_state_of-requires g c some =
    let s = c.self.inside in
    stack_entries (definition_of g.L.StorageT.Numbered.number s.definition.now) s.text.now (items_by g.L.StorageT.Numbered.number g.L.LexemeT.Lexeme.seen s.lexed.items.items) s.lexed.boundaries c.self.invariant.1
    (length s.lexed.boundaries - 1) (omega (arith, some))
