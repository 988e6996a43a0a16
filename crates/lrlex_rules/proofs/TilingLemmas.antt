-- A text has one tiling, and what follows a boundary is a tiling of what is left.
use Rattle.std.proofs.Common.{◌≡◌, ℕ, ◌≤◌, Bool, true, false, cond, List, [], ◌∷◌, length, drop, Option, Some, None, refl, sym, ap, ap₂, ◌∙◌, subst, inl, inr, arith, true≢false, slice_get}
use Rattle.std.proofs.lemmas.Bool.{cases_lt}
use Rattle.lrlex_rules.specs.Definition.{Definition, Rule}
use Rattle.lrlex_matching.proofs.ForCallers.{length_within}
use Rattle.lrlex_rules.specs.Patterns.{pattern_of}
use Rattle.lrlex_rules.specs.Active.{is_active, taken_by, taken_by_any, rule_at, lacks_id, lacks_target}
use Rattle.lrlex_rules.specs.Tiling.{Tile}
use Rattle.lrlex_rules.specs.Tiling.{Wins, IsStuck, top, End, Done, NoMatch, NoId, NoTarget, IsWinner, IsEnd, IsTaken, stack_past, IsTiling}

-- ---- a winner ends within the text

within_cases : (b : Bool) (n len : ℕ) → n ≤ len → cond b n 0 ≤ len
within_cases true n len h = h
within_cases false n len h = omega arith

taken_by-le : (d : Definition) (q : ℕ) (text : List ℕ) (r : Rule) → taken_by d q text r ≤ length text
unfolding taken_by
taken_by-le d q text r = within_cases (is_active d.states q r) _ _ (length_within (pattern_of r) text)

taken_by_any-le : (d : Definition) (q : ℕ) (text : List ℕ) (o : Option Rule) → taken_by_any d q text o ≤ length text
taken_by_any-le d q text None = omega arith
taken_by_any-le d q text (Some r) = taken_by-le d q text r

-- a winner takes bytes of the text
pub Wins-le : (d : Definition) (q : ℕ) (text : List ℕ) (k n : ℕ) → Wins d q text k n → n ≤ length text
Wins-le d q text k n w = omega (arith, taken_by_any-le d q text (slice_get d.rules k), w.takes)

no_winner_of_nothing : (d : Definition) (q : ℕ) (text : List ℕ) (k n : ℕ) → text ≡ [] → ¬ (Wins d q text k n)
no_winner_of_nothing d q text k n e w =
    let none : length text ≡ 0 = ap length e in
    absurd (omega (arith, Wins-le d q text k n w, w.some))

pub stuck_or_wins : (d : Definition) (q : ℕ) (text : List ℕ) (k n : ℕ) → IsStuck d q text → ¬ (Wins d q text k n)
stuck_or_wins d q text k n stuck w = absurd (omega (arith, stuck k, w.takes, w.some))

-- ---- one winner, one end, one tiling

pub one_len : (d : Definition) (q : ℕ) (text : List ℕ) (k n j m : ℕ) → Wins d q text k n → Wins d q text j m → n ≡ m
one_len d q text k n j m v w = omega (arith, v.takes, w.takes, v.greatest j, w.greatest k)

pub one_rule : (d : Definition) (q : ℕ) (text : List ℕ) (k n j m : ℕ) → Wins d q text k n → Wins d q text j m → k ≡ j
one_rule d q text k n j m v w =
    let same = one_len d q text k n j m v w in
    elim (cases_lt k j) [
      | inl lt ↦ absurd (omega (arith, w.earliest k lt, v.takes, same))
      | inr ge ↦ elim (cases_lt j k) [
        | inl gt ↦ absurd (omega (arith, v.earliest j gt, w.takes, same))
        | inr le ↦ omega arith
      ]
    ]

pub one_winner : (d : Definition) (text stack : List ℕ) (t u : Tile) → IsWinner d text stack t → IsWinner d text stack u → t ≡ u
one_winner d text stack t u v w =
    let r = one_rule d (top stack) text t.rule t.len u.rule u.len v w in
    let l = one_len d (top stack) text t.rule t.len u.rule u.len v w in
    ap₂ (λ (k n : ℕ). let made : Tile = record { rule = k; len = n } in made) r l

opposite : (f : ℕ → Bool) (k j : ℕ) → k ≡ j → f k ≡ true → ¬ (f j ≡ false)
opposite f k j e holds fails = true≢false (sym holds ∙ ap f e ∙ fails)

one_end : (d : Definition) (text stack : List ℕ) (e f : End) → IsEnd d text stack e → IsEnd d text stack f → e ≡ f
one_end d text stack Done Done v w = refl
one_end d text stack Done (NoMatch q) v w = absurd (w.0 v)
one_end d text stack Done NoId v w = absurd (no_winner_of_nothing d _ text _ _ v w.1)
one_end d text stack Done (NoTarget t) v w = absurd (no_winner_of_nothing d _ text _ _ v w.0)
one_end d text stack (NoMatch p) Done v w = absurd (v.0 w)
one_end d text stack (NoMatch p) (NoMatch q) v w = ap NoMatch (v.1 ∙ sym w.1)
one_end d text stack (NoMatch p) NoId v w = absurd (stuck_or_wins d (top stack) text _ _ (subst (λ q. IsStuck d q text) v.1 v.2) w.1)
one_end d text stack (NoMatch p) (NoTarget t) v w = absurd (stuck_or_wins d (top stack) text _ _ (subst (λ q. IsStuck d q text) v.1 v.2) w.0)
one_end d text stack NoId Done v w = absurd (no_winner_of_nothing d _ text _ _ w v.1)
one_end d text stack NoId (NoMatch q) v w = absurd (stuck_or_wins d (top stack) text _ _ (subst (λ p. IsStuck d p text) w.1 w.2) v.1)
one_end d text stack NoId NoId v w = refl
one_end d text stack NoId (NoTarget t) v w =
    absurd (opposite (λ k. lacks_id (rule_at d k)) _ _ (ap (λ (u : Tile). u.rule) (one_winner d text stack v.0 t v.1 w.0)) v.2 w.1)
one_end d text stack (NoTarget t) Done v w = absurd (no_winner_of_nothing d _ text _ _ w v.0)
one_end d text stack (NoTarget t) (NoMatch q) v w = absurd (stuck_or_wins d (top stack) text _ _ (subst (λ p. IsStuck d p text) w.1 w.2) v.0)
one_end d text stack (NoTarget t) NoId v w =
    absurd (opposite (λ k. lacks_id (rule_at d k)) _ _ (ap (λ (u : Tile). u.rule) (one_winner d text stack w.0 t w.1 v.0)) w.2 v.1)
one_end d text stack (NoTarget t) (NoTarget u) v w = ap NoTarget (one_winner d text stack t u v.0 w.0)

end_or_taken : (d : Definition) (text stack : List ℕ) (e : End) (t : Tile) → IsEnd d text stack e → ¬ (IsTaken d text stack t)
end_or_taken d text stack Done t v w = absurd (no_winner_of_nothing d _ text _ _ v w.wins)
end_or_taken d text stack (NoMatch q) t v w = absurd (stuck_or_wins d (top stack) text _ _ (subst (λ p. IsStuck d p text) v.1 v.2) w.wins)
end_or_taken d text stack NoId t v w =
    absurd (opposite (λ k. lacks_id (rule_at d k)) _ _ (ap (λ (u : Tile). u.rule) (one_winner d text stack v.0 t v.1 w.wins)) v.2 w.has_id)
end_or_taken d text stack (NoTarget u) t v w =
    absurd (opposite (λ k. lacks_target d (rule_at d k)) _ _ (ap (λ (x : Tile). x.rule) (one_winner d text stack u t v.0 w.wins)) v.2 w.has_target)

pub record AreSame (ts us : List Tile) (e f : End) : Type 0 where
  pub tiles : ts ≡ us
  pub end : e ≡ f

pub one_tiling : (d : Definition) (text stack : List ℕ) (ts us : List Tile) (e f : End) → IsTiling d text stack ts e → IsTiling d text stack us f → AreSame ts us e f
one_tiling d text stack [] [] e f v w = record { tiles = refl; end = one_end d text stack e f v w }
one_tiling d text stack [] (u ∷ us) e f v w = absurd (end_or_taken d text stack e u v w.0)
one_tiling d text stack (t ∷ ts) [] e f v w = absurd (end_or_taken d text stack f t w v.0)
one_tiling d text stack (t ∷ ts) (u ∷ us) e f v w =
    let same = one_winner d text stack t u v.0.wins w.0.wins in
    let rest = one_tiling d (drop t.len text) (stack_past d stack t) ts us e f v.1
    (subst (λ x. IsTiling d (drop x.len text) (stack_past d stack x) us f) (sym same) w.1) in
    record { tiles = ap₂ ◌∷◌ same rest.tiles; end = rest.end }

-- a tiling from state 0 is the only one
pub only_one : (d : Definition) (text : List ℕ) (cut : List Tile) (end : End) → IsTiling d text (0 ∷ []) cut end →
    (ts : List Tile) (e : End) → IsTiling d text (0 ∷ []) ts e → (ts ≡ cut) × (e ≡ end)
only_one d text cut end is ts e h =
    let same = one_tiling d text (0 ∷ []) ts cut e end h is in
    (same.tiles, same.end)
