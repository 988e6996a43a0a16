use Rattle.std.proofs.Common.{◌≡◌, length, refl, sym, ap, ◌∙◌}
use Rattle.std.specs.Prelude.{unwrap_or}
use Rattle.std.proofs.lemmas.Bool.{lt-ltb, true≢false}
use Rattle.std.proofs.lemmas.Option.{same_Some, slice_get_read, slice_get_within}
use Rattle.lrlex_rules.specs.Kinds.{kind_of}
use Rattle.lrlex_definition.specs.RowKinds.{own_kind}
use Rattle.lrlex_definition.proofs.RowKindLemmas.{kind_again}
use Rattle.lrlex_definition.proofs.row_kinds.RowKind.with_kind.Goals as goal

pub returns-in_default-clause-kind : goal.returns-in_default-clause-kind
returns-in_default-clause-kind g c r at = absurd (true≢false (sym (lt-ltb _ _ (slice_get_within c.args.rules.now c.args.self.rule r at)) ∙ sym c.in_default.ensures.lookup.0))

pub returns-clause-kind : goal.returns-clause-kind
returns-clause-kind g c r at =
    let rules = c.args.rules.now in
    let place = c.args.self.rule in
    let lt = slice_get_within rules place r at in
    let rule = c.in-Some.rule.now in
    let same : rule ≡ r = same_Some rule r (sym (slice_get_read rules (length rules) place rule refl lt c.in-Some.ensures.lookup.1) ∙ at) in
    let kind = c.kind_of-kind.result in
    ap (λ id. own_kind (record { rule = place; id = id; named = c.is_some.result; plain = kind.plain; list = c.args.self.list })) c.unwrap_or.ensures
    ∙ ap (λ is. own_kind (record { rule = place; id = unwrap_or kind.id c.args.self.id; named = is; plain = kind.plain; list = c.args.self.list })) c.is_some.ensures
    ∙ kind_again kind.id kind.plain place c.args.self.list c.args.self.id
    ∙ c.kind_of-kind.ensures
    ∙ ap kind_of same
