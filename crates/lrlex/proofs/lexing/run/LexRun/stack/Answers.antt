use Rattle.std.proofs.Common.{◌<◌, length, sym, subst}
use Rattle.lrlex_boundaries.specs.Entries.{AreEntries}
use Rattle.lrlex.specs.LexRun.{Run}
use Rattle.lrlex.specs.Views.{definition_of, items_by}
use Rattle.lrlex.proofs.KnownLemmas.{stack_entries}
use Rattle.lrlex.proofs.lexing.run.LexRun.stack.Goals as goal

pub returns-clause-entries : goal.returns-clause-entries
returns-clause-entries g c =
    let s = c.self.inside in
    let within = subst (λ (v : Run _ _). c.args.index < length v.boundaries) (sym c.self.view_is) c.requires in
    subst AreEntries (sym c.stack.ensures) (stack_entries (definition_of g.L.StorageT.Numbered.number s.definition.now) s.text.now (items_by g.L.StorageT.Numbered.number g.L.LexemeT.Lexeme.seen s.lexed.items.items) s.lexed.boundaries c.self.invariant.1 c.args.index within)
