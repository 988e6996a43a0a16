use Rattle.std.proofs.Common.{◌≡◌, ◌∙◌, ◌++◌, true, refl, sym, ap}
use Rattle.lrlex_parser.specs.declared.duplicates.Faults.{Faults}
use Rattle.lrlex_parser.specs.Event.{is_refused}
use Rattle.lrlex_parser.proofs.SurveyLemmas.{passes_over}
use Rattle.lrlex_parser.proofs.survey.Survey.pass_over.Goals as goal

pub returns-in_ok-append-clause-passes : goal.returns-in_ok-append-clause-passes
returns-in_ok-append-clause-passes g c flags events at =
    let s = at.0 in
    let refused : is_refused s.since ≡ true = sym s.parser.refused ∙ c.if-self.true in
    passes_over g.StorageT.Numbered.number flags c.args.self.now events s _ (at.1 refused)
    (c.in_ok-append.ensures.items ∙ ap (λ (fs : Faults). c.args.self.now.told.items ++ fs.list.items) c.replace-list.ensures.value) refl refl
    (ap (λ (fs : Faults). fs.list.items) c.replace-list.ensures.after ∙ c.new.ensures) refl

pub returns-else-self-clause-passes : goal.returns-else-self-clause-passes
returns-else-self-clause-passes g c flags events at = (at.0, sym at.0.parser.refused ∙ c.if-self.false)
