use Rattle.std.specs.declared.alloc.Global.{Global}
use Rattle.std.specs.Prelude.{Box}
use Rattle.std.proofs.Common.{◌≡◌, sym, ap, ◌∙◌, subst}
use Rattle.std.proofs.lemmas.Option.{same_Some}
use Rattle.regex.specs.Patterns.{SameCaptures}
use Rattle.regex.specs.Strings.{matcher_pattern}
use Rattle.regex.specs.declared.string.matcher.Matcher.{Matcher}
use Rattle.lrlex_rules.specs.Patterns.{rule_pattern}
use Rattle.lrlex_rules.proofs.matchers.match_rule.Goals as goal

pub match_with-requires-clause-rule : goal.match_with-requires-clause-rule
match_with-requires-clause-rule g c =
    let rule = c.args.rule.now in
    let m = c.in-Some.matcher in
    subst (λ (x : Matcher). SameCaptures (matcher_pattern x) (rule_pattern rule)) (sym c.deref_mut.ensures.value) (c.requires.slot m c.in-Some.is)

pub returns-in_ok-matcher-in-None-2-clause-slot : goal.returns-in_ok-matcher-in-None-2-clause-slot
returns-in_ok-matcher-in-None-2-clause-slot g c m e =
    let rule = c.args.rule.now in
    let own = rule_pattern rule in
    let made = c.in_ok-matcher-in-None.field-0 in
    let same : matcher_pattern c.match_with-len.new.matcher ≡ matcher_pattern made =
    c.match_with-len.ensures.same ∙ ap matcher_pattern (c.deref_mut-in-None.ensures.value ∙ c.in_ok-matcher-in-None-2.ensures.ok) in
    let held : SameCaptures (matcher_pattern c.match_with-len.new.matcher) own =
    subst (λ p. SameCaptures p own) (sym same) c.in_ok-matcher-in-None.ensures in
    subst (λ (x : Box Matcher Global). SameCaptures (matcher_pattern x.value) own) (same_Some _ _ e) held
