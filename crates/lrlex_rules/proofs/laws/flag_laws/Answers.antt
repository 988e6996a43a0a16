use Rattle.lrlex_rules.proofs.FlagLemmas.{flags_same, flags_equal, config_resolved, nesting_used, resolved_once}
use Rattle.lrlex_rules.proofs.laws.flag_laws.Goals as goal

pub returns-clause-equal : goal.returns-clause-equal
returns-clause-equal c = λ a b. (λ h. flags_same a b h, λ e. flags_equal a b e)

pub returns-clause-config : goal.returns-clause-config
returns-clause-config c = config_resolved

pub returns-clause-nesting : goal.returns-clause-nesting
returns-clause-nesting c = nesting_used

pub returns-clause-once : goal.returns-clause-once
returns-clause-once c = resolved_once
