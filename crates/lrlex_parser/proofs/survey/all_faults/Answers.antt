use Rattle.std.proofs.Common.{◌∙◌, ◌^◌, ◌-◌, [], ◌∷◌, map, sym, ap, subst}
use Rattle.lrlex_parser.specs.Event.Event.{NewState}
use Rattle.lrlex_parser.specs.Declaration.{initial}
use Rattle.lrlex_parser.specs.LexParser.{AreApart, EndBy, as_piece}
use Rattle.lrlex_parser.proofs.AllOf.{are_all, all_begin, all_in_place}
use Rattle.lrlex_rules.proofs.PatternLemmas.{if_ok}
use Rattle.lrlex_parser.proofs.survey.all_faults.Goals as goal

pub read_declarations-requires-clause-fit : goal.read_declarations-requires-clause-fit
read_declarations-requires-clause-fit g c = subst (EndBy (2 ^ 64 - 1)) (sym c.as_slice.ensures.value) c.in_ok-declared.ensures.declared_fit

pub read_declarations-requires-clause-calm : goal.read_declarations-requires-clause-calm
read_declarations-requires-clause-calm g c = c.in_ok-survey.ensures.calm

pub read_rules-requires-clause-fit : goal.read_rules-requires-clause-fit
read_rules-requires-clause-fit g c = subst (EndBy (2 ^ 64 - 1)) (sym c.as_slice-2.ensures.value) c.in_ok-declared.ensures.rules_fit

pub read_rules-requires-clause-calm : goal.read_rules-requires-clause-calm
read_rules-requires-clause-calm g c = c.in_ok-read_declarations.ensures.calm

pub finish-requires : goal.finish-requires
finish-requires g c = c.in_ok-read_rules.ensures.calm

pub read_rules-requires-clause-apart : goal.read_rules-requires-clause-apart
read_rules-requires-clause-apart g c = subst AreApart (sym c.as_slice-2.ensures.value) c.in_ok-declared.ensures.apart

pub returns-clause-exact : goal.returns-clause-exact
returns-clause-exact g c =
    let rr = c.resolved-resolved.result in
    let adds = c.in_ok-read_rules.ensures.adds in
    let declared = c.in_ok-read_declarations.ensures.adds rr (NewState initial ∷ []) (c.in_ok-survey.ensures.stands rr) in
    let calm = adds.1 c.args.flags (sym c.resolved-resolved.ensures) _ declared in
    if_ok c.finish.result (λ v told. are_all c.args.flags rr g.StorageT.Numbered.greatest c.args.text.now c.allows_comments.result c.as_slice.result.now c.as_slice-2.result.now c.in_ok-declared.field-0.fault c.resolved-resolved.ensures c.allows_comments.ensures
    (ap (map as_piece) c.as_slice.ensures.value ∙ c.in_ok-declared.ensures.declared) (ap (map as_piece) c.as_slice-2.ensures.value ∙ c.in_ok-declared.ensures.rules) c.in_ok-declared.ensures.fault adds.0 v (told rr _ calm)) c.finish.ensures

pub returns-clause-begins : goal.returns-clause-begins
returns-clause-begins g c = if_ok c.finish.result (all_begin c.args.flags g.StorageT.Numbered.greatest c.args.text.now) (returns-clause-exact g c)

pub returns-clause-placed : goal.returns-clause-placed
returns-clause-placed g c = if_ok c.finish.result (λ v. all_in_place c.args.flags g.StorageT.Numbered.greatest c.args.text.now v c.utf8.text) (returns-clause-exact g c)
