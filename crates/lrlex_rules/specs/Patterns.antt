-- The pattern of a rule.
use Rattle.std.specs.Prelude.{ℕ, List}
use Rattle.std.specs.Option.{option_map_or}
use Rattle.std.specs.Str.{chars}
use Rattle.regex_syntax.specs.Grammar.{read}
use Rattle.regex.specs.Patterns.{Config, Re, empty}
use Rattle.lrlex_rules.specs.Definition.{Rule}
use Rattle.lrlex_rules.specs.RuleParts.{RuleParts, as_rule}
use Rattle.lrlex_rules.specs.WrappedPattern.{wrapped}

-- the pattern that `regex`'s grammar reads in a text under these options; `empty` stands for a text that has no reading
unfoldable pub pattern_read : Config → List ℕ → Re
pattern_read config text = option_map_or (λ found. found.0.value) (read config (chars text)) empty

-- the pattern of a rule
unfoldable pub pattern_of : Rule → Re
pattern_of r = pattern_read r.config (wrapped r.re_str)

-- that of a rule of the program, which doesn't depend on its id
abbrev pub rule_pattern : {S : Type 0} → RuleParts S → Re
rule_pattern r = pattern_of (as_rule (λ _. 0) r)
