-- A scan over the rules keeps the best so far.
use Rattle.std.proofs.Common.{◌≡◌, ℕ, zero, suc, ◌+◌, ◌<◌, ◌≤◌, Bool, true, false, List, [], ◌∷◌, length, drop, refl, ap, subst, inl, inr, ◌⊎◌, arith}
use Rattle.std.proofs.lemmas.Bool.{cases_lt}
use Rattle.std.proofs.lemmas.Option.{slice_get_past}
use Rattle.std.proofs.lemmas.List.{length-drop}
use Rattle.lrlex_rules.specs.Definition.{Definition}
use Rattle.lrlex_rules.specs.Active.{taken_by_any, taken, rule_at, lacks_id, lacks_target}
use Rattle.lrlex_rules.specs.Tiling.{Tile}
use Rattle.lrlex_rules.specs.Tiling.{Wins, IsStuck, top, End, Done, NoMatch, NoId, NoTarget, stack_past, IsTiling}

-- Of the first m rules none takes more than n bytes, and where that is not 0, rule k is the first that takes n.
pub record IsBest (d : Definition) (q : ℕ) (text : List ℕ) (m k n : ℕ) : Type 0 where
  pub most : (j : ℕ) → j < m → taken d q text j ≤ n
  pub takes : 0 < n → taken d q text k ≡ n
  pub first : 0 < n → (j : ℕ) → j < k → taken d q text j < n
  pub within : 0 < n → k < m

pub IsBest-none : (d : Definition) (q : ℕ) (text : List ℕ) (k : ℕ) → IsBest d q text 0 k 0
IsBest-none d q text k = record {
  most = λ j h. absurd (omega arith);
  takes = λ h. absurd (omega arith);
  first = λ h. absurd (omega arith);
  within = λ h. absurd (omega arith);
}

pub IsBest-kept : (d : Definition) (q : ℕ) (text : List ℕ) (m k n : ℕ) → IsBest d q text m k n → taken d q text m ≤ n → IsBest d q text (m + 1) k n
IsBest-kept d q text m k n b le = record {
  most = λ j h. elim (cases_lt j m) [
    | inl lt ↦ b.most j lt
    | inr ge ↦ let same : m ≡ j = omega arith in subst (λ i. taken d q text i ≤ n) same le
  ];
  takes = b.takes;
  first = b.first;
  within = λ h. omega (arith, b.within h);
}

pub IsBest-taken : (d : Definition) (q : ℕ) (text : List ℕ) (m k n p : ℕ) → IsBest d q text m k n → taken d q text m ≡ p → n < p → IsBest d q text (m + 1) m p
IsBest-taken d q text m k n p b is gt = record {
  most = λ j h. elim (cases_lt j m) [
    | inl lt ↦ omega (arith, b.most j lt)
    | inr ge ↦ let same : m ≡ j = omega arith in let at = subst (λ i. taken d q text i ≡ p) same is in omega arith
  ];
  takes = λ h. is;
  first = λ h j lt. omega (arith, b.most j lt);
  within = λ h. omega arith;
}

-- rules that take nothing change nothing
pub IsBest-skip : (d : Definition) (q : ℕ) (text : List ℕ) (m j k n : ℕ) → IsBest d q text m k n → m ≤ j →
    ((i : ℕ) → m ≤ i → i < j → taken d q text i ≡ 0) → IsBest d q text j k n
IsBest-skip d q text m j k n b le none = record {
  most = λ i lt. elim (cases_lt i m) [
    | inl early ↦ b.most i early
    | inr late ↦ omega (arith, none i late lt)
  ];
  takes = b.takes;
  first = b.first;
  within = λ h. omega (arith, b.within h);
}

taken_past : (d : Definition) (q : ℕ) (text : List ℕ) (j : ℕ) → length d.rules ≤ j → taken d q text j ≡ 0
taken_past d q text j past = ap (taken_by_any d q text) (slice_get_past d.rules j past)

most_of_all : (d : Definition) (q : ℕ) (text : List ℕ) (k n : ℕ) → IsBest d q text (length d.rules) k n → (j : ℕ) → taken d q text j ≤ n
most_of_all d q text k n b j = elim (cases_lt j (length d.rules)) [
  | inl lt ↦ b.most j lt
  | inr ge ↦ omega (arith, taken_past d q text j ge)
]

pub Wins-of_IsBest : (d : Definition) (q : ℕ) (text : List ℕ) (k n : ℕ) → IsBest d q text (length d.rules) k n → 0 < n → Wins d q text k n
Wins-of_IsBest d q text k n b some = record {
  some = some;
  takes = b.takes some;
  greatest = most_of_all d q text k n b;
  earliest = b.first some;
}

pub IsStuck-of_IsBest : (d : Definition) (q : ℕ) (text : List ℕ) (k n : ℕ) → IsBest d q text (length d.rules) k n → n ≡ 0 → IsStuck d q text
IsStuck-of_IsBest d q text k n b none j = omega (arith, most_of_all d q text k n b j)

-- ---- there is a tiling

best_of : (d : Definition) (q : ℕ) (text : List ℕ) (m : ℕ) → (k : ℕ) × (n : ℕ) × IsBest d q text m k n
best_of d q text zero = (0, 0, IsBest-none d q text 0)
best_of d q text (suc m) =
    let b = best_of d q text m in
    let next : m + 1 ≡ suc m = omega arith in
    elim (cases_lt b.1 (taken d q text m)) [
      | inl gt ↦ (m, taken d q text m, subst (λ i. IsBest d q text i m (taken d q text m)) next (IsBest-taken d q text m b.0 b.1 (taken d q text m) b.2 refl gt))
      | inr le ↦ (b.0, b.1, subst (λ i. IsBest d q text i b.0 b.1) next (IsBest-kept d q text m b.0 b.1 b.2 le))
    ]

-- some rule wins, or none
pub winner_or_stuck : (d : Definition) (q : ℕ) (text : List ℕ) → ((k : ℕ) × (n : ℕ) × Wins d q text k n) ⊎ IsStuck d q text
winner_or_stuck d q text =
    let b = best_of d q text (length d.rules) in
    elim (cases_lt 0 b.1) [
      | inl some ↦ inl (b.0, b.1, Wins-of_IsBest d q text b.0 b.1 b.2 some)
      | inr none ↦ inr (IsStuck-of_IsBest d q text b.0 b.1 b.2 (omega arith))
    ]

pub record HasTiling (d : Definition) (text stack : List ℕ) : Type 0 where
  pub tiles : List Tile
  pub end : End
  pub is : IsTiling d text stack tiles end

-- a winner that is not refused goes on with the rest
on_winner : (d : Definition) (text stack : List ℕ) (t : Tile) → Wins d (top stack) text t.rule t.len →
    HasTiling d (drop t.len text) (stack_past d stack t) → (x y : Bool) → lacks_id (rule_at d t.rule) ≡ x → lacks_target d (rule_at d t.rule) ≡ y → HasTiling d text stack
on_winner d text stack t w rest true y e f = record { tiles = []; end = NoId; is = (t, w, e) }
on_winner d text stack t w rest false true e f = record { tiles = []; end = NoTarget t; is = (w, e, f) }
on_winner d text stack t w rest false false e f =
    record { tiles = t ∷ rest.tiles; end = rest.end; is = (record { wins = w; has_id = e; has_target = f }, rest.is) }

tiling_within : (d : Definition) (fuel : ℕ) (text stack : List ℕ) → length text ≤ fuel → HasTiling d text stack
tiling_within d fuel [] stack le = record { tiles = []; end = Done; is = refl }
tiling_within d zero (b ∷ text) stack le = absurd (omega arith)
tiling_within d (suc fuel) (b ∷ text) stack le =
    elim (winner_or_stuck d (top stack) (b ∷ text)) [
      | inl w ↦
          on_winner d (b ∷ text) stack (record { rule = w.0; len = w.1 }) w.2
          (tiling_within d fuel (drop w.1 (b ∷ text)) (stack_past d stack (record { rule = w.0; len = w.1 }))
          (omega (arith, length-drop w.1 (b ∷ text), w.2.some, le)))
          _ _ refl refl
      | inr stuck ↦ record { tiles = []; end = NoMatch (top stack); is = (λ e. cc, refl, stuck) }
    ]

-- each text has a tiling from each stack
pub a_tiling : (d : Definition) (text stack : List ℕ) → HasTiling d text stack
a_tiling d text stack = tiling_within d (length text) text stack (omega arith)
