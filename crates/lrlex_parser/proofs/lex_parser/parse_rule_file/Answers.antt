use Rattle.std.proofs.Common.{◌≡◌, ◌∙◌, true, false, eqb, List, length, None, ap, sym, refl, subst}
use Rattle.lrlex_parser.specs.declared.faults.LexBuildError.{LexBuildError}
use Rattle.lrlex_parser.specs.LexParser.{Suits, settings, refused_of, AreRefusals, regex_errors}
use Rattle.lrlex_rules.specs.declared.flags.LexFlags.{LexFlags}
use Rattle.lrlex_parser.specs.Event.{refused_patterns}
use Rattle.lrlex_parser.specs.Outcome.{events_of}
use Rattle.lrlex_rules.specs.Flags.{config_of, size_limit_of}
use Rattle.lrlex_parser.proofs.LexBuildResultLemmas.{whole, answers_faults, answers_definition, none_told}
use Rattle.lrlex_parser.proofs.Refusals.{refused_as_given}
use Rattle.lrlex_parser.proofs.Initial.{outcome_first}
use Rattle.lrlex_parser.proofs.Lawful.{outcome_lawful}
use Rattle.lrlex_parser.proofs.PlacedFaults.{outcome_placed}
use Rattle.lrlex_parser.proofs.lex_parser.parse_rule_file.Goals as goal

pub returns-then-not-is_empty-clause-answer : goal.returns-then-not-is_empty-clause-answer
returns-then-not-is_empty-clause-answer g c =
    let rr = c.resolved-resolved.result in
    let r = refused_of c.parse.new.self in
    let suits : Suits (settings c.args.flags g.StorageT.Numbered.greatest r) rr g.StorageT.Numbered.greatest = record { flags_are = sym c.resolved-resolved.ensures; greatest_is = refl } in
    let some : eqb (length c.parse.new.self.faults.list.items) 0 ≡ false = ap (λ (es : List LexBuildError). eqb (length es) 0) (sym c.as_slice.ensures.value) ∙ sym c.is_empty.ensures ∙ c.if-not-is_empty.true in
    answers_faults g.StorageT.Numbered.number c.args.flags rr g.StorageT.Numbered.greatest r c.args.text.now c.parse.new.self c.resolved-resolved.ensures (c.in_ok-parse.ensures (settings c.args.flags g.StorageT.Numbered.greatest r) suits _ (c.in_ok-parser.ensures rr) refl) some

pub returns-clause-answer : goal.returns-clause-answer
returns-clause-answer g c =
    let rr = c.resolved-resolved.result in
    let suits : Suits (settings c.args.flags g.StorageT.Numbered.greatest None) rr g.StorageT.Numbered.greatest = record { flags_are = sym c.resolved-resolved.ensures; greatest_is = refl } in
    let none : eqb (length c.parse.new.self.faults.list.items) 0 ≡ true = ap (λ (es : List LexBuildError). eqb (length es) 0) (sym c.as_slice.ensures.value) ∙ sym c.is_empty.ensures ∙ c.if-not-is_empty.false in
    answers_definition g.StorageT.Numbered.number c.args.flags rr g.StorageT.Numbered.greatest None c.args.text.now c.parse.new.self c.resolved-resolved.ensures
    (c.in_ok-parse.ensures (settings c.args.flags g.StorageT.Numbered.greatest None) suits _ (c.in_ok-parser.ensures rr) (none_told c.parse.new.self none)) none

pub returns-then-not-is_empty-clause-refusals : goal.returns-then-not-is_empty-clause-refusals
returns-then-not-is_empty-clause-refusals g c =
    let rr = c.resolved-resolved.result in
    let r = refused_of c.parse.new.self in
    let suits : Suits (settings c.args.flags g.StorageT.Numbered.greatest r) rr g.StorageT.Numbered.greatest = record { flags_are = sym c.resolved-resolved.ensures; greatest_is = refl } in
    let all = whole g.StorageT.Numbered.number c.args.flags rr g.StorageT.Numbered.greatest r c.args.text.now c.parse.new.self c.resolved-resolved.ensures (c.in_ok-parse.ensures (settings c.args.flags g.StorageT.Numbered.greatest r) suits _ (c.in_ok-parser.ensures rr) refl) in
    let P : LexFlags → Type 0 = λ f. AreRefusals (config_of f) (size_limit_of f) (refused_patterns (events_of (settings c.args.flags g.StorageT.Numbered.greatest r) c.args.text.now)) (regex_errors c.parse.new.self.faults.list.items) in
    refused_as_given c.args.flags _ _ (subst P c.resolved-resolved.ensures all.refusals)

pub returns-then-not-is_empty-clause-placed : goal.returns-then-not-is_empty-clause-placed
returns-then-not-is_empty-clause-placed g c =
    outcome_placed (settings c.args.flags g.StorageT.Numbered.greatest (refused_of c.parse.new.self)) c.args.text.now c.parse.new.self.faults.list.items c.utf8.text (returns-then-not-is_empty-clause-answer g c)

pub returns-clause-lawful : goal.returns-clause-lawful
returns-clause-lawful g c = outcome_lawful (settings c.args.flags g.StorageT.Numbered.greatest None) c.args.text.now _ c.utf8.text (sym (returns-clause-answer g c))

pub returns-clause-first : goal.returns-clause-first
returns-clause-first g c = outcome_first (settings c.args.flags g.StorageT.Numbered.greatest None) c.args.text.now _ (sym (returns-clause-answer g c))
