-- A text after edits, step by step.
use Rattle.std.proofs.Common.{◌≡◌, ◌∙◌, ap, sym, subst, refl, add-one, suc, ℕ, ◌+◌, ◌<◌, ◌≤◌, List, [], ◌∷◌, ◌++◌, length, map, take, drop, get_or}
use Rattle.std.specs.Borrow.{Bor}
use Rattle.std.proofs.Math.Seq.{drop-cons}
use Rattle.std.proofs.lemmas.List.{map_more, drop_all}
use Rattle.lrlex_base.specs.Spans.{Fits, as_span}
use Rattle.lrlex_base.specs.Edits.{edited}
use Rattle.lrlex_base.specs.declared.edits.Edit.{Edit}
use Rattle.lrlex_examples.specs.Lexing.{AreSteps, text_after}

abbrev Step : Type 0
Step = Edit × Bor (List ℕ)

-- the step's edit makes its text of this one
abbrev pub IsStep : List ℕ → Step → Type 0
IsStep now step = Fits now step.0.removed × (step.1.now ≡ edited now (as_span step.0.removed) step.0.put.now)

text_after-push : (text : List ℕ) (es : List Edit) (e : Edit) → text_after text (es ++ e ∷ []) ≡ edited (text_after text es) (as_span e.removed) e.put.now
text_after-push text [] e = refl
text_after-push text (x ∷ xs) e = text_after-push (edited text (as_span x.removed) x.put.now) xs e

module _ (text now : List ℕ) (steps : List Step) (i : ℕ) (step d : Step) (within : i < length steps) (is : step ≡ get_or steps i d) where
  pub text_after_more : now ≡ text_after text (map (λ (s : Step). s.0) (take i steps)) → IsStep now step → step.1.now ≡ text_after text (map (λ (s : Step). s.0) (take (i + 1) steps))
  text_after_more so_far made =
      let more = map_more (λ (s : Step). s.0) steps i d within ∙ ap (λ (s : Step). map (λ (s : Step). s.0) (take i steps) ++ s.0 ∷ []) (sym is) in
      made.1 ∙ ap (λ (t : List ℕ). edited t (as_span step.0.removed) step.0.put.now) so_far
      ∙ sym (ap (text_after text) more ∙ text_after-push text (map (λ (s : Step). s.0) (take i steps)) step.0)

  rest : drop i steps ≡ step ∷ drop (i + 1) steps
  rest = rw (add-one, drop-cons steps i d) (ap (λ (s : Step). s ∷ drop (suc i) steps) (sym is))

  -- the rest of the steps, from this one on
  pub these_steps : AreSteps now (drop i steps) → IsStep now step × AreSteps step.1.now (drop (i + 1) steps)
  these_steps h = let both = subst (AreSteps now) rest h in ((both.0, both.1), both.2)

  pub more_steps : IsStep now step → AreSteps step.1.now (drop (i + 1) steps) → AreSteps now (drop i steps)
  more_steps made h = subst (AreSteps now) (sym rest) (made.0, made.1, h)

pub no_steps : (now : List ℕ) (steps : List Step) (i : ℕ) → length steps ≤ i → AreSteps now (drop i steps)
no_steps now steps i past = subst (AreSteps now) (sym (drop_all i steps past)) tt
