use Rattle.std.proofs.Common.{rules, ◌≡◌, ap, refl, subst, sym}
use Rattle.lrlex_base.specs.Edits.{edited}
use Rattle.lrlex_base.specs.Spans.{Fits, as_span}
use Rattle.lrlex.specs.Changes.{HasChanged}
use Rattle.lrlex.specs.Progress.{IsEditOf}
use Rattle.lrlex.specs.Searches.{asks_by}
use Rattle.lrlex.specs.LexRun.{Run}
use Rattle.lrlex_definition.specs.RuleTable.{definition_by}
use Rattle.lrlex.specs.Views.{items_by}
use Rattle.lrlex.proofs.InPlaceLemmas.{counts_moved}
use Rattle.lrlex.proofs.ItemLemmas.{have_laws}
use Rattle.lrlex.proofs.lexing.run.LexRun.relex.Goals as goal

pub returns-clause-laws : goal.returns-clause-laws
returns-clause-laws g c = have_laws _ _ _ _ (rw (sym c.self.view_is) c.in_ok-lexed.ensures.run)

pub returns-clause-counts : goal.returns-clause-counts
returns-clause-counts g c =
    counts_moved (asks_by c.self.inside.definition.now.table) (ap (λ (v : Run _ _). v.boundaries) c.self.view_is) (ap (λ (v : Run _ _). v.ahead) c.self.view_is) refl refl c.in_ok-lexed.ensures.counts

pub returns-clause-changed : goal.returns-clause-changed
returns-clause-changed g c =
    let number = g.L.StorageT.Numbered.number in
    let seen = g.L.LexemeT.Lexeme.seen in
    let table = c.self.inside.definition.now.table in
    let old = c.self.inside.lexed in
    let removed = c.args.edit.now.removed in
    let put = c.args.edit.now.put.now in
    let now = c.in_ok-lexed.lexed in
    let text_is : c.self.inside.text.now ≡ c.args.self.now.text = ap (λ (v : Run _ _). v.text) c.self.view_is in
    let known : IsEditOf number seen table old.items.items old.boundaries old.ahead.items removed put c.args.new.now = record {
      text = c.self.inside.text.now;
      small = search rules;
      looks = c.self.invariant.0;
      run = c.self.invariant.1;
      fits = subst (λ t. Fits t removed) (sym text_is) c.requires.fits;
      gives = subst (λ t. c.args.new.now ≡ edited t (as_span removed) put) (sym text_is) c.requires.gives;
    } in
    subst (λ (v : Run _ _). HasChanged (definition_by number table) v.text c.args.new.now (as_span removed) put (items_by number seen v.items) (items_by number seen now.items.items) v.boundaries now.boundaries now.changed now.recut) c.self.view_is
    (c.in_ok-lexed.ensures.changed known)
