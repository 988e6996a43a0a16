-- The matchers of rules, each made when its rule is first matched by `regex`.
use Rattle.std.specs.declared.alloc.Global.{Global}
use Rattle.std.specs.Prelude.{Box, ◌≡◌, ℕ, List, length, Option, Some, slice_get}
use Rattle.regex.specs.Patterns.{SameCaptures}
use Rattle.regex.specs.Strings.{matcher_pattern}
use Rattle.regex.specs.declared.string.matcher.Matcher.{Matcher}
use Rattle.lrlex_rules.specs.RuleParts.{RuleParts}
use Rattle.lrlex_rules.specs.Patterns.{rule_pattern}

-- a matcher, where there is one, is that of the rule
abbrev pub IsMatcherOf : {S : Type 0} → RuleParts S → Option (Box Matcher Global) → Type 0
IsMatcherOf r o = (m : Box Matcher Global) → o ≡ Some m → SameCaptures (matcher_pattern m.value) (rule_pattern r)

-- room for a matcher of each rule, and each that was made is that of the rule at its place
abbrev pub AreMatchers : {S : Type 0} → List (RuleParts S) → List (Option (Box Matcher Global)) → Type 0
AreMatchers rules made =
    (length made ≡ length rules)
    × ((i : ℕ) (r : RuleParts _) (o : Option (Box Matcher Global)) → slice_get rules i ≡ Some r → slice_get made i ≡ Some o → IsMatcherOf r o)
