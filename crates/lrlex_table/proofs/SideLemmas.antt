-- Where an NFA asks only for the start of the text or of a line, a step that knows whether it is there is right.
use Rattle.std.proofs.Common.{◌≡◌, ℕ, ◌==◌, Bool, true, false, cond, if◌then◌else◌, inl, inr, ◌||◌, List, Option, Some, None, refl, sym, ap, ap₂, ◌∙◌, subst, true≢false, arith}
use Rattle.std.specs.Coded.{coded_bool}
use denote.Struct.Props.{≡_prop}
use mathlib.Core.Logic.{∥∥₁_elim}
use Rattle.regex_hir.specs.Looks.{Side, is_edge, is_lf, side_before, holds, holds_between}
use Rattle.regex_nfa.specs.declared.nfa.Nfa.{Nfa}
use Rattle.regex_dfa.specs.Kinds.{sees_lf}
use Rattle.regex_dfa.specs.Moves.{Test, Agrees}
use Rattle.regex_dfa.specs.declared.dfa.Dfa.{Dfa}
use Rattle.regex_dfa.proofs.ClassesLemmas.{state_within}
use Rattle.lrlex_table.specs.Determinizer.{AsksForStarts, side_at, no_side, StepsFrom, StepsOn}

pub agrees_at_start : (nfa : Nfa) (hay : List ℕ) (j : ℕ) (before after : Side) → AsksForStarts nfa → is_edge (side_before hay j) ≡ is_edge before →
    is_lf (side_before hay j) ≡ is_lf before → Agrees nfa (λ l. holds l hay j) before after true
unfolding Agrees holds holds_between
agrees_at_start nfa hay j before after only edge line q l next is decided = elim (only q l next is) [
  | inl text ↦ subst (λ x. holds x hay j ≡ holds_between x before after) (sym text) edge
  | inr row ↦ subst (λ x. holds x hay j ≡ holds_between x before after) (sym row) (ap₂ (λ (x y : Bool). x || y) edge line)
]

-- with no assertion for the start of a line, only the edge counts
agrees_on_edge : (dfa : Dfa) (test : Test) (before other after : Side) → AsksForStarts dfa.nfa → dfa.needs.lf ≡ false → is_edge before ≡ is_edge other →
    Agrees dfa.nfa test before after true → Agrees dfa.nfa test other after true
unfolding Agrees holds_between
agrees_on_edge dfa test before other after only none edge right q l next is decided = right q l next is decided ∙ elim (only q l next is) [
  | inl text ↦ subst (λ x. holds_between x before after ≡ holds_between x other after) (sym text) edge
  | inr row ↦
      let inside = state_within dfa.nfa.states.items q _ is (λ e. cc) in
      ∥∥₁_elim dfa.served (≡_prop coded_bool _ _) (λ served.
      absurd (true≢false (sym ((served q l next (omega (arith, inside, dfa.nfa.states.ok.0)) is).1 (ap sees_lf row)) ∙ none)))
]

edge_of_row : (r : ℕ) (line other : Bool) → is_edge (side_at r line) ≡ is_edge (side_at r other)
edge_of_row r line other = elim (r == 1) as (λ b. is_edge (record { byte = cond b None (Some (if line then 10 else 0)); char = None }) ≡ is_edge (record { byte = cond b None (Some (if other then 10 else 0)); char = None })) [
  | true ↦ refl
  | false ↦ refl
]

-- ---- one step for all that may be before a row

-- in row 1, where nothing does
pub steps_at_first : (nfa : Nfa) (byte : Option ℕ) (threads next : List ℕ) (matched : Bool) → StepsFrom nfa (side_at 1 false) byte threads next matched →
    StepsOn nfa 1 byte threads next matched
unfolding StepsOn
steps_at_first nfa byte threads next matched steps line = steps

-- where no assertion is for the start of a line
pub steps_on_edge : (dfa : Dfa) (r : ℕ) (byte : Option ℕ) (threads next : List ℕ) (matched : Bool) → AsksForStarts dfa.nfa → dfa.needs.lf ≡ false →
    StepsFrom dfa.nfa (side_at r false) byte threads next matched → StepsOn dfa.nfa r byte threads next matched
unfolding StepsOn StepsFrom
steps_on_edge dfa r byte threads next matched only none steps line test agrees =
    steps test (agrees_on_edge dfa test (side_at r line) (side_at r false) no_side only none (edge_of_row r line false) agrees)

-- where both steps are the same
pub steps_alike : (nfa : Nfa) (r : ℕ) (byte : Option ℕ) (threads next : List ℕ) (matched : Bool) → StepsFrom nfa (side_at r false) byte threads next matched →
    StepsFrom nfa (side_at r true) byte threads next matched → StepsOn nfa r byte threads next matched
unfolding StepsOn
steps_alike nfa r byte threads next matched other after false = other
steps_alike nfa r byte threads next matched other after true = after
