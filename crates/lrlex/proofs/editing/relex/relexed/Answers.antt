use Rattle.std.proofs.Common.{◌≡◌, ℕ, List, Result, subst}
use Rattle.lrlex_base.specs.LexemeParts.{LexemeParts}
use Rattle.lrlex_base.specs.Spans.{as_span}
use Rattle.lrlex_base.specs.declared.spans.Span.{Span}
use Rattle.lrlex_boundaries.specs.Boundaries.{Boundary}
use Rattle.lrlex.specs.Changes.{HasChanged}
use Rattle.lrlex.specs.Progress.{IsEditOf}
use Rattle.lrlex_rules.specs.Tiling.{Item}
use Rattle.lrlex_definition.specs.RuleTable.{definition_by}
use Rattle.lrlex.specs.Views.{items_by}
use Rattle.lrlex.specs.declared.editing.changes.Changed.{Changed}
use Rattle.lrlex_rules.specs.declared.errors.LRLexError.{LRLexError}
use Rattle.lrlex_definition.specs.declared.rule_table.RuleTable.{RuleTable}
use Rattle.lrlex.proofs.LinearLemmas.{linear_again}
use Rattle.lrlex.proofs.editing.relex.relexed.Goals as goal

-- the same change, of what is known to be the same
changed_of : {S X : Type 0} (number : S → ℕ) (seen : X → LexemeParts S) (d : RuleTable S) (removed : Span) (put new : List ℕ) {old was : List (Result X LRLexError)} {olds were : List Boundary} {numbers before : List ℕ} {now : List Item} {news : List Boundary} {c : Changed} {recut : ℕ} →
    was ≡ old → were ≡ olds → before ≡ numbers →
    ((known : IsEditOf number seen d was were before removed put new) → HasChanged (definition_by number d) known.text new (as_span removed) put (items_by number seen was) now were news c recut) →
    (known : IsEditOf number seen d old olds numbers removed put new) → HasChanged (definition_by number d) known.text new (as_span removed) put (items_by number seen old) now olds news c recut
changed_of number seen d removed put new {old} {was} {olds} {were} {numbers} {before} {now} {news} {c} {recut} is_old is_olds is_numbers h =
    subst (λ n. (known : IsEditOf number seen d old olds n removed put new) → HasChanged (definition_by number d) known.text new (as_span removed) put (items_by number seen old) now olds news c recut) is_numbers
    (subst (λ b. (known : IsEditOf number seen d old b before removed put new) → HasChanged (definition_by number d) known.text new (as_span removed) put (items_by number seen old) now b news c recut) is_olds
    (subst (λ x. (known : IsEditOf number seen d x were before removed put new) → HasChanged (definition_by number d) known.text new (as_span removed) put (items_by number seen x) now were news c recut) is_old h))

pub returns-clause-changed : goal.returns-clause-changed
returns-clause-changed g c =
    changed_of g.S.Numbered.number g.X.Lexeme.seen c.args.table.now c.args.edit.now.removed c.args.edit.now.put.now c.args.new.now
    c.in_ok-lexed.ensures.items c.in_ok-lexed.ensures.boundaries c.in_ok-lexed.ensures.ahead c.in_ok-asked.ensures.changed

pub returns-clause-linear : goal.returns-clause-linear
returns-clause-linear g c = linear_again c.args.table.now c.args.new.now _ _ _ c.in_ok-asked.ensures.recut
