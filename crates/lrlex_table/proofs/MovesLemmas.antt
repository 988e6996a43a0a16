-- Moves of the threads of two tables, where the second's patterns come after the first's.
use Rattle.std.proofs.Common.{◌≡◌, ℕ, ◌+◌, ◌-◌, ◌<◌, ◌≤◌, Bool, false, cond, List, [], Option, Some, None, nat_lt, refl, sym, ap, ◌∙◌, subst, inl, inr, arith}
use Rattle.std.proofs.lemmas.Bool.{cond-true, cond-false, cases_lt, lt-ltb, le-ltb}
use Rattle.regex_nfa.specs.declared.nfa.Nfa.{Nfa}
use Rattle.regex_dfa.specs.Moves.{Test, first_end, MovesForward}
use Rattle.lrlex_table.specs.Table.{IsFirstMatch}
use Rattle.lrlex_table.specs.ProductBuilder.{first_win}

abbrev pub pick : {A : Type 0} → ℕ → (ℕ → A) → (ℕ → A) → ℕ → A
pick m f g k = cond (nat_lt k m) (f k) (g (k - m))

pub pick_low : {A : Type 0} (m : ℕ) (f g : ℕ → A) (k : ℕ) → k < m → pick m f g k ≡ f k
pick_low m f g k lt = cond-true (nat_lt k m) (f k) (g (k - m)) (lt-ltb k m lt)

pub pick_high : {A : Type 0} (m : ℕ) (f g : ℕ → A) (k : ℕ) → m ≤ k → pick m f g k ≡ g (k - m)
pick_high m f g k le = cond-false (nat_lt k m) (f k) (g (k - m)) (le-ltb k m le)

pub pick_nil : {A : Type 0} (m : ℕ) (f g : ℕ → A) (k : ℕ) (x : A) → ((i : ℕ) → f i ≡ x) → ((i : ℕ) → g i ≡ x) → pick m f g k ≡ x
pick_nil m f g k x p q = elim (cases_lt k m) [
  | inl lt ↦ pick_low m f g k lt ∙ p k
  | inr ge ↦ pick_high m f g k ge ∙ q (k - m)
]

pub first_match_both : (m n : ℕ) (f g : ℕ → Bool) (o p : Option ℕ) → IsFirstMatch m f o → IsFirstMatch n g p → IsFirstMatch (m + n) (pick m f g) (first_win m o p)
first_match_both m n f g (Some w) p a b = (
  omega (arith, a.0),
  pick_low m f g w a.0 ∙ a.1,
  λ k lt. pick_low m f g k (omega (arith, a.0)) ∙ a.2 k lt,
)
first_match_both m n f g None (Some w) a b = (
  omega (arith, b.0),
  pick_high m f g (w + m) (omega arith) ∙ ap g (let e : w + m - m ≡ w = omega arith in e) ∙ b.1,
  λ k lt. elim (cases_lt k m) [
    | inl low ↦ pick_low m f g k low ∙ a k low
    | inr high ↦ pick_high m f g k high ∙ b.2 (k - m) (omega arith)
  ],
)
first_match_both m n f g None None a b = λ k lt. elim (cases_lt k m) [
  | inl low ↦ pick_low m f g k low ∙ a k low
  | inr high ↦ pick_high m f g k high ∙ b (k - m) (omega arith)
]

pub first_match_none : (n : ℕ) → IsFirstMatch n (λ k. false) None
first_match_none n k lt = refl

-- no thread moves to no thread
pub moves_none : (nfa : Nfa) (test : Test) (byte : Option ℕ) → MovesForward nfa test [] byte [] false
unfolding MovesForward first_end
moves_none nfa test byte v solves = refl

pub moves_as : (f g : Nfa) (test : Test) (qs rs : List ℕ) (byte : Option ℕ) (next later : List ℕ) (b c : Bool) →
    g ≡ f → rs ≡ qs → later ≡ next → c ≡ b → MovesForward f test qs byte next b → MovesForward g test rs byte later c
moves_as f g test qs rs byte next later b c same first then was h =
    subst (λ x. MovesForward x test rs byte later c) (sym same)
    (subst (λ x. MovesForward f test x byte later c) (sym first)
    (subst (λ x. MovesForward f test qs byte x c) (sym then)
    (subst (λ x. MovesForward f test qs byte next x) (sym was) h)))
