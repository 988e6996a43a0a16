use Rattle.std.proofs.Common.{◌≡◌, ◌∙◌, map, take, rules, refl, sym, ap, subst, arith, true≢false}
use Rattle.std.proofs.lemmas.List.{take_all}
use Rattle.lrlex.specs.Reach.{IsRun}
use Rattle.lrlex.specs.Lexer.{lexer_items}
use Rattle.lrlex.specs.Views.{definition_of, items_by}
use Rattle.lrlex_examples.specs.Lexing.{text_after}
use Rattle.lrlex_examples.proofs.StepLemmas.{IsStep, text_after_more, these_steps, more_steps, no_steps}
use Rattle.lrlex_base.specs.Lexemes.{lexeme_seen}
use Rattle.lrlex_examples.proofs.WordLemmas.{number}
use Rattle.lrlex_examples.proofs.callers.lexing.lexer_after.Goals as goal

pub loop-edit-preserved : goal.loop-edit-preserved
loop-edit-preserved c =
    let step = c.loop-edit-item.result in
    let r = c.in_ok-run-2.run' in
    let made : IsStep c.loop-edit.now.now step = c.gives.ensures.0 c.if-not-gives.false in
    record {
      definition = c.in_ok-run-2.ensures.definition ∙ c.loop-edit.invariant.definition;
      text = c.in_ok-run-2.ensures.text;
      utf8 = search rules;
      now = text_after_more c.args.text.now c.loop-edit.now.now c.args.steps.now c.loop-edit.edit-index step _ c.loop-edit-test.true c.loop-edit-item.is c.loop-edit.invariant.now made;
      steps = (
        λ h. (these_steps c.args.text.now c.loop-edit.now.now c.args.steps.now c.loop-edit.edit-index step _ c.loop-edit-test.true c.loop-edit-item.is (c.loop-edit.invariant.steps.0 h)).1,
        λ h. c.loop-edit.invariant.steps.1 (more_steps c.args.text.now c.loop-edit.now.now c.args.steps.now c.loop-edit.edit-index step _ c.loop-edit-test.true c.loop-edit-item.is made h),
      );
      run = subst (λ d. IsRun (definition_of number d) step.1.now (items_by number lexeme_seen r.items) r.boundaries) c.loop-edit.invariant.definition c.in_ok-run-2.ensures.run;
    }

pub returns-then-not-gives-clause-made : goal.returns-then-not-gives-clause-made
returns-then-not-gives-clause-made c = (
  λ h. absurd (true≢false (sym h)),
  λ h.
      let made = (these_steps c.args.text.now c.loop-edit.now.now c.args.steps.now c.loop-edit.edit-index c.loop-edit-item.result _ c.loop-edit-test.true c.loop-edit-item.is (c.loop-edit.invariant.steps.0 h)).0 in
      sym c.if-not-gives.true ∙ c.gives.ensures.1 made,
)

pub returns-clause-made : goal.returns-clause-made
returns-clause-made c = (
  λ h. c.loop-edit.invariant.steps.1 (no_steps c.loop-edit.now.now c.args.steps.now c.loop-edit.edit-index (omega (arith, c.loop-edit-test.false))),
  λ h. refl,
)

pub returns-clause-run : goal.returns-clause-run
returns-clause-run c =
    let d = definition_of number c.args.definition.now in
    let run = c.loop-edit.run in
    let all : take c.loop-edit.edit-index c.args.steps.now ≡ c.args.steps.now = take_all c.loop-edit.edit-index c.args.steps.now (omega (arith, c.loop-edit-test.false)) in
    let now : c.loop-edit.now.now ≡ text_after c.args.text.now (map (λ s. s.0) c.args.steps.now) =
    c.loop-edit.invariant.now ∙ ap (λ ss. text_after c.args.text.now (map (λ s. s.0) ss)) all in (
      run.boundaries,
      subst (λ t. IsRun d t (items_by number lexeme_seen (lexer_items c.in_ok-into_lexer.field-0)) run.boundaries) now
          (subst (λ xs. IsRun d c.loop-edit.now.now (items_by number lexeme_seen xs) run.boundaries) (sym c.in_ok-into_lexer.ensures.items) c.loop-edit.invariant.run),
    )
