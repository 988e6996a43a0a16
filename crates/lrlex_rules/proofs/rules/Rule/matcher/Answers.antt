use Rattle.std.specs.Prelude.{string_bytes}
use Rattle.std.proofs.Common.{sym, ap, ◌∙◌, subst, IfOk}
use Rattle.regex.specs.Strings.{regex_pattern, matcher_pattern}
use Rattle.regex.specs.Patterns.{Re, SameCaptures}
use Rattle.lrlex_rules.specs.RuleParts.{as_rule}
use Rattle.lrlex_rules.specs.Patterns.{pattern_of, pattern_read}
use Rattle.lrlex_rules.specs.WrappedPattern.{wrapped}
use Rattle.lrlex_rules.proofs.PatternLemmas.{if_ok}
use Rattle.lrlex_rules.proofs.PatternLemmas.{source_alike}
use Rattle.lrlex_rules.proofs.rules.Rule.matcher.Goals as goal

pub returns : goal.returns
unfolding pattern_of
returns g c =
    let rule = c.self.inside in
    let own : Re = pattern_read rule.config (wrapped (string_bytes rule.re_str)) in
    subst (λ v. IfOk c.matcher.result (λ m. SameCaptures (matcher_pattern m) (pattern_of (as_rule (λ _. 0) v)))) c.self.view_is
    (if_ok c.matcher.result (λ m e. subst (λ re. SameCaptures re own) (sym (e ∙ ap regex_pattern c.deref.ensures)) (source_alike rule.re.value rule.config (wrapped (string_bytes rule.re_str)) c.self.invariant.0 c.self.invariant.1 c.self.invariant.2)) c.matcher.ensures.pattern)
