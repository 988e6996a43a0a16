use Rattle.std.proofs.Common.{true, false, ◌≡◌, ◌∙◌, ◌<◌, ◌≤◌, [], ◌∷◌, ◌++◌, ℕ, length, ap, sym, refl, map, subst}
use Rattle.std.specs.Option.{option_map}
use Rattle.std.specs.String.{string_bytes}
use Rattle.std.proofs.lemmas.List.{map_push}
use Rattle.lrlex_rules.specs.Definition.{Rule}
use Rattle.lrlex_rules.specs.Flags.{config_of, size_limit_of}
use Rattle.lrlex_rules.specs.RuleParts.{as_rule}
use Rattle.lrlex_parser.specs.LexParser.{as_parts, as_pattern, IsRefused}
use Rattle.lrlex_parser.proofs.LexParserLemmas.{on_ok, adds_rule}
use Rattle.lrlex_parser.proofs.RuleEvents.{line_too_many, line_refused, line_kept, rule_made, at_most}
use Rattle.lrlex_parser.proofs.lex_parser.LexParser.add_rule.Goals as goal

pub returns-in_default : goal.returns-in_default
returns-in_default g c =
    let more : g.StorageT.Numbered.greatest < length c.args.self.now.rules.list.items = subst (λ (n : ℕ). g.StorageT.Numbered.greatest < n) (ap (length {A = _}) c.as_slice.ensures.value) (c.in_default.ensures.none.0 refl) in
    on_ok c.refuse.result (line_too_many g.StorageT.Numbered.number c.args.flags.now g.StorageT.Numbered.greatest c.args.self.now c.refuse.new.self c.args.at (as_parts c.args.parts) (as_pattern c.args.pattern) more) c.refuse.ensures.adds

pub returns-in_ok-push-in-Ok : goal.returns-in_ok-push-in-Ok
returns-in_ok-push-in-Ok g c =
    let count : length c.as_slice.result.now ≡ length c.args.self.now.rules.list.items = ap (length {A = _}) c.as_slice.ensures.value in
    let room : length c.args.self.now.rules.list.items ≤ g.StorageT.Numbered.greatest = subst (λ (n : ℕ). n ≤ g.StorageT.Numbered.greatest) count (at_most g.StorageT.Numbered.greatest (length c.as_slice.result.now) (λ lt. let e : true ≡ false = c.in-Some.ensures.none.1 lt in cc)) in
    let numbered = c.in_ok-rule.ensures.made g.StorageT.Numbered.number in
    let made = rw c.in-Ok.is at numbered in
    let is : as_rule g.StorageT.Numbered.number c.in-Ok.rule ≡ _ = rule_made (as_parts c.args.parts) (as_pattern c.args.pattern) c.args.flags.now (as_rule g.StorageT.Numbered.number c.in-Ok.rule) (g.StorageT.Numbered.number c.in-Some.id) (length c.args.self.now.rules.list.items) (option_map string_bytes c.in_ok-name.name) made (c.in-Some.ensures.value ∙ count) c.in_ok-name.ensures in
    line_kept g.StorageT.Numbered.number c.args.flags.now g.StorageT.Numbered.greatest c.args.self.now _ c.args.at (as_parts c.args.parts) (as_pattern c.args.pattern) c.requires room refl
    (λ r same events was. adds_rule g.StorageT.Numbered.number c.args.flags.now c.args.self.now _ events was c.requires r refl refl refl
    (ap (map (as_rule g.StorageT.Numbered.number)) c.in_ok-push-in-Ok.ensures ∙ map_push (as_rule g.StorageT.Numbered.number) c.args.self.now.rules.list.items _
    ∙ ap (λ (x : Rule). map (as_rule g.StorageT.Numbered.number) c.args.self.now.rules.list.items ++ x ∷ []) (is ∙ sym same)))

pub returns-in-Err : goal.returns-in-Err
returns-in-Err g c =
    let count : length c.as_slice.result.now ≡ length c.args.self.now.rules.list.items = ap (length {A = _}) c.as_slice.ensures.value in
    let room : length c.args.self.now.rules.list.items ≤ g.StorageT.Numbered.greatest = subst (λ (n : ℕ). n ≤ g.StorageT.Numbered.greatest) count (at_most g.StorageT.Numbered.greatest (length c.as_slice.result.now) (λ lt. let e : true ≡ false = c.in-Some.ensures.none.1 lt in cc)) in
    let refused = rw c.in-Err.is at c.in_ok-rule.ensures.refused in
    let kind = rw c.in-Err.is at c.in_ok-rule.ensures.kind in
    let not_memory = rw c.in-Err.is at c.in_ok-rule.ensures.not_memory in
    let no_internal = rw c.in-Err.is at c.in_ok-rule.ensures.no_internal in
    let why : IsRefused (config_of c.args.flags.now) (size_limit_of c.args.flags.now) (string_bytes c.args.pattern.text) c.in-Err.error = record { by_grammar = refused; kind = kind; not_memory = not_memory; no_internal = no_internal } in
    on_ok c.refuse_pattern.result (line_refused g.StorageT.Numbered.number c.args.flags.now g.StorageT.Numbered.greatest c.args.self.now c.refuse_pattern.new.self c.args.at (as_parts c.args.parts) (as_pattern c.args.pattern) c.in-Err.error c.requires room why) c.refuse_pattern.ensures

pub push-requires : goal.push-requires
push-requires g c =
    let numbered = c.in_ok-rule.ensures.made g.StorageT.Numbered.number in
    let made = rw c.in-Ok.is at numbered in
    ap (λ (r : Rule). r.name) made ∙ c.in_ok-name.ensures
