-- A single thread that reads a byte goes to one state, or to none.
use Rattle.std.proofs.Common.{◌≡◌, ℕ, ◌⊎◌, inl, inr, false, List, [], ◌∷◌, length, Option, Some, None, option_and_then, slice_index, refl, sym, ap, ◌∙◌, subst, arith}
use Rattle.regex_hir.proofs.OptionLemmas.{option_or-None}
use Rattle.std.specs.Option.{option_or}
use Rattle.regex_nfa.specs.States.{next_on}
use Rattle.regex_nfa.specs.Run.{state_of}
use Rattle.regex_nfa.specs.declared.state.State.{State}
use Rattle.regex_nfa.specs.declared.state.State.TheVariants.{ByteRange, Sparse}
use Rattle.regex_nfa.specs.declared.state.Transition.{Transition}
use Rattle.regex_nfa.specs.declared.nfa.Nfa.{Nfa}
use Rattle.regex_dfa.specs.Moves.{Test, first_end, Ends, Solves, end_of, end_after, MovesForward}

abbrev pub IsReader : State → Type 0
IsReader s = ((t : Transition) × (s ≡ ByteRange t)) ⊎ ((from : ℕ) × (to : ℕ) × (s ≡ Sparse from to))

pub one_thread : (qs : List ℕ) → length qs ≡ 1 → qs ≡ slice_index qs 0 ∷ []
one_thread [] one = absurd (omega arith)
one_thread (q ∷ []) one = refl
one_thread (q ∷ p ∷ qs) one = absurd (omega arith)

module _ (nfa : Nfa) (qs : List ℕ) (q : ℕ) (byte : Option ℕ) (alone : qs ≡ q ∷ []) (reader : IsReader (state_of nfa q)) where
  after : (test : Test) (v : Ends) → Solves nfa test byte v → v.now q ≡ end_after nfa test byte v (state_of nfa q)
  after test v solves = solves q ∙ elim reader [
    | inl (t, is) ↦ subst (λ s. end_of nfa test byte v s ≡ end_after nfa test byte v s) (sym is) refl
    | inr (from, to, is) ↦ subst (λ s. end_of nfa test byte v s ≡ end_after nfa test byte v s) (sym is) refl
  ]

  pub moves_to : (t : ℕ) (next : List ℕ) → option_and_then (next_on nfa.transitions.items (state_of nfa q)) byte ≡ Some t → next ≡ t ∷ [] →
      (test : Test) → MovesForward nfa test qs byte next false
  unfolding MovesForward first_end
  moves_to t next target is test v solves =
      ap (λ l. first_end l v.now) alone
      ∙ ap (λ o. option_or o None) (after test v solves ∙ ap (option_and_then v.next) target ∙ sym (option_or-None (v.next t)))
      ∙ ap (λ l. option_or (first_end l v.next) None) (sym is)

  pub moves_nowhere : (next : List ℕ) → option_and_then (next_on nfa.transitions.items (state_of nfa q)) byte ≡ None → next ≡ [] →
      (test : Test) → MovesForward nfa test qs byte next false
  unfolding MovesForward first_end
  moves_nowhere next none is test v solves =
      ap (λ l. first_end l v.now) alone
      ∙ ap (λ o. option_or o None) (after test v solves ∙ ap (option_and_then v.next) none)
      ∙ ap (λ l. option_or (first_end l v.next) None) (sym is)
