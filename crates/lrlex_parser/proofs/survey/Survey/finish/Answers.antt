use Rattle.std.proofs.Common.{◌∙◌, ◌++◌, refl, sym, ap, subst}
use Rattle.std.specs.Prelude.{Option}
use Rattle.std.specs.Option.{option_map}
use Rattle.lrlex_parser.specs.declared.fatal.Fatal.{Fatal}
use Rattle.lrlex_parser.specs.AllFaults.{then_fault}
use Rattle.lrlex_parser.specs.LexParser.{as_fatal}
use Rattle.lrlex_parser.specs.Survey.{IsToldBy}
use Rattle.lrlex_parser.proofs.SurveyLemmas.{tells_calm, tells_fault}
use Rattle.lrlex_parser.proofs.survey.Survey.finish.Goals as goal
use Rattle.lrlex_parser.proofs.survey.Survey.finish.Goals.{in-Some+in_ok-refuse, in_default}

pub returns : goal.returns
returns g c flags events calm =
    let P : Option Fatal → Type 0 = λ f. IsToldBy flags (then_fault events (option_map as_fatal f)) c.append.new.self.items in
    elim c.match-fault.branch [
      | in-Some+in_ok-refuse w ↦ subst P (sym w.in-Some.is) (tells_fault g.StorageT.Numbered.number flags c.args.self (record { parser = w.refuse.new.self; told = c.args.self.told }) events calm (as_fatal w.in-Some.fault) refl
          (w.in_ok-refuse.ensures.adds flags calm.0.since calm.0.parser) c.append.new.self.items (c.in_ok-append.ensures.items ∙ ap (λ p. c.args.self.told.items ++ p.faults.list.items) w.parser-is))
      | in_default w ↦ subst P (sym w.in_default.is) (tells_calm g.StorageT.Numbered.number flags c.args.self events calm.0 c.append.new.self.items (c.in_ok-append.ensures.items ∙ ap (λ p. c.args.self.told.items ++ p.faults.list.items) w.parser-is) calm.1)
    ]
