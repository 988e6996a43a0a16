use Rattle.std.proofs.Common.{◌-◌, length, arith}
use Rattle.std.specs.String.{string_bytes}
use Rattle.lrlex.specs.Views.{definition_of, items_by}
use Rattle.lrlex.proofs.KnownLemmas.{stack_entries}
use Rattle.lrlex.proofs.editing.document.Document.end_state.Goals as goal

pub end_state_of-requires : goal.end_state_of-requires
end_state_of-requires g c some =
    let s = c.self.inside in
    stack_entries (definition_of g.L.StorageT.Numbered.number s.definition.now) (string_bytes s.held.text) (items_by g.L.StorageT.Numbered.number g.L.LexemeT.Lexeme.seen s.held.lexed.items.items) s.held.lexed.boundaries c.self.invariant.2
    (length s.held.lexed.boundaries - 1) (omega (arith, some))
