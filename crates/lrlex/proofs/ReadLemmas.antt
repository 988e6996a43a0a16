-- A definition that is made of what was read of a rule text.
use Rattle.std.proofs.Common.{◌≡◌, ℕ, true, List, [], ◌∷◌, Some, refl, sym, subst, slice_get}
use Rattle.std.specs.Prelude.{◌==◌}
use Rattle.std.specs.List.{list_any}
use Rattle.std.proofs.lemmas.Option.{same_Some}
use Rattle.lrlex_rules.specs.Definition.{StartState}
use Rattle.lrlex_parser.specs.Declaration.{initial}
use Rattle.lrlex_parser.specs.LexParser.{as_definition}
use Rattle.lrlex_parser.specs.declared.lex_parser.RuleFile.{RuleFile}
use Rattle.lrlex_definition.specs.RuleTable.{definition_by}
use Rattle.lrlex_definition.specs.declared.rule_table.RuleTable.{RuleTable}

pub definition_by-parts : {S : Type 0} (number : S → ℕ) (t : RuleTable S) (file : RuleFile S) →
    t.rules ≡ file.rules → t.start_states ≡ file.states → t.flags ≡ file.flags → definition_by number t ≡ as_definition number file
definition_by-parts number t file rules states flags = rw (rules, states, flags) refl

-- where the state that each rule file begins with stands first, a state has the id 0
pub has_initial : (states : List StartState) → slice_get states 0 ≡ Some initial → list_any (λ s. s.id == 0) states ≡ true
has_initial [] h = cc
has_initial (s ∷ more) h = subst (λ (x : StartState). list_any (λ y. y.id == 0) (x ∷ more) ≡ true) (sym (same_Some _ _ h)) refl
