use Rattle.std.proofs.Common.{OnOk, ap, subst}
use Rattle.std.specs.String.{string_bytes}
use Rattle.lrlex.specs.Changes.{HasChanged}
use Rattle.lrlex_definition.specs.RuleTable.{definition_by}
use Rattle.lrlex.specs.Views.{items_by}
use Rattle.lrlex_base.specs.Spans.{span}
use Rattle.lrlex.specs.LexRun.{Run}
use Rattle.lrlex.proofs.DocumentLemmas.{edited_counts, edited_laws, edited_linear, still_lexed}
use Rattle.lrlex.proofs.editing.document.Document.edit.Goals as goal

pub invariant_of-self : goal.invariant_of-self
invariant_of-self g c =
    still_lexed g.L.StorageT.Numbered.number g.L.LexemeT.Lexeme.seen c.self.inside.definition.now.table (span c.args.from c.args.to) c.args.put.now c.self.inside.held c.edit_bytes.new.it
    c.edit_bytes.result c.edit_bytes.ensures.made c.edit_bytes.ensures.kept c.self.invariant

pub returns-clause-laws : goal.returns-clause-laws
returns-clause-laws g c =
    edited_laws g.L.StorageT.Numbered.number g.L.LexemeT.Lexeme.seen c.self.inside.definition.now.table (span c.args.from c.args.to) c.args.put.now c.self.inside.held c.edit_bytes.new.it
    c.edit_bytes.result c.edit_bytes.ensures.made

pub returns-clause-counts : goal.returns-clause-counts
returns-clause-counts g c =
    edited_counts g.L.StorageT.Numbered.number g.L.LexemeT.Lexeme.seen c.self.inside.definition.now.table (span c.args.from c.args.to) c.args.put.now c.self.inside.held c.edit_bytes.new.it
    c.edit_bytes.result c.args.self.now.boundaries c.args.self.now.ahead c.edit_bytes.ensures.made
    (ap (λ (v : Run _ _). v.boundaries) c.self.view_is) (ap (λ (v : Run _ _). v.ahead) c.self.view_is)

pub returns-clause-changed : goal.returns-clause-changed
returns-clause-changed g c =
    let number = g.L.StorageT.Numbered.number in
    let seen = g.L.LexemeT.Lexeme.seen in
    let table = c.self.inside.definition.now.table in
    let removed = span c.args.from c.args.to in
    let it = c.edit_bytes.new.it in
    subst (λ (v : Run _ _). OnOk c.edit_bytes.result (HasChanged (definition_by number table) v.text (string_bytes it.text) removed c.args.put.now (items_by number seen v.items)
    (items_by number seen it.lexed.items.items) v.boundaries it.lexed.boundaries it.lexed.changed it.lexed.recut)) c.self.view_is
    c.edit_bytes.ensures.changed

pub returns-clause-linear : goal.returns-clause-linear
returns-clause-linear g c =
    edited_linear g.L.StorageT.Numbered.number g.L.LexemeT.Lexeme.seen c.self.inside.definition.now.table (span c.args.from c.args.to) c.args.put.now c.self.inside.held c.edit_bytes.new.it
    c.edit_bytes.result c.edit_bytes.ensures.made
