-- The name of the state that was found.
use Rattle.std.proofs.Common.{◌≡◌, ◌≢◌, ne_eqb, ℕ, ◌==◌, List, Option, None, ap, ◌∙◌, sym}
use Rattle.std.specs.List.{find}
use Rattle.std.specs.Option.{option_map}
use Rattle.std.proofs.lemmas.Bool.{cond-false}
use Rattle.lrlex_rules.specs.RuleParts.{as_state}
use Rattle.lrlex_rules.specs.declared.states.StartState.{StartState}
use Rattle.lrlex_report.specs.StopTexts.{state_name}

pub named : (states : List StartState) (id : ℕ) (o : Option StartState) → id ≢ 0 → o ≡ find (λ s. (as_state s).id == id) states →
    option_map (λ (s : StartState). (as_state s).name) o ≡ state_name states id
named states id o other e =
    ap (option_map (λ (s : StartState). (as_state s).name)) e ∙ sym (cond-false (id == 0) None (option_map (λ (s : StartState). (as_state s).name) (find (λ s. (as_state s).id == id) states)) (ne_eqb id 0 other))
