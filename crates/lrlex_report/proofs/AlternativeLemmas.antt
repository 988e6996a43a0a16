-- The first alternative of a pattern, and what is left behind its `|`.
use Rattle.std.proofs.Common.{◌≡◌, ℕ, suc, Bool, ◌-◌, ◌≤◌, ◌<◌, true, false, List, [], ◌∷◌, length, take, drop, refl, sym, ap, subst, arith}
use Rattle.std.proofs.lemmas.List.{take_all}
use Rattle.std.specs.List.{onto_first}
use Rattle.lrlex_report.specs.declared.warnings.pattern_classes.Context.{Context}
use Rattle.lrlex_report.specs.PatternClasses.{at_beginning, after, after_pair, is_pair, from_first}
use Rattle.lrlex_report.specs.Alternatives.{is_bar, alternatives, alternatives_from}

-- the pattern from its first `|` on
abbrev pub left_of : Context → List ℕ → List ℕ
left_of x xs = from_first is_bar x xs

-- the alternatives behind it
abbrev pub behind : (left : List ℕ) → List (List ℕ)
behind [] = []
behind (b ∷ rest) = alternatives rest

-- ---- it is no longer than the pattern
abbrev pub Within : Context → List ℕ → Type 0
Within x xs = length (left_of x xs) ≤ length xs

within_lone : (x : Context) (b : ℕ) (m : Bool) → is_bar x (b ∷ []) ≡ m → Within x (b ∷ [])
within_lone x b true e = rw e (omega arith)
within_lone x b false e = rw e (omega arith)

within_step : (x : Context) (b c : ℕ) (rest : List ℕ) (m p : Bool) → is_bar x (b ∷ c ∷ rest) ≡ m → is_pair x b c ≡ p → Within (after_pair x b) rest → Within (after x b) (c ∷ rest) → Within x (b ∷ c ∷ rest)
within_step x b c rest true p e pair two one = rw e (omega arith)
within_step x b c rest false true e pair two one = rw (e, pair) (omega (arith, two))
within_step x b c rest false false e pair two one = rw (e, pair) (omega (arith, one))

pub within : (x : Context) (xs : List ℕ) → Within x xs
within x [] = omega arith
within x (b ∷ []) = within_lone x b (is_bar x (b ∷ [])) refl
within x (b ∷ c ∷ rest) = within_step x b c rest (is_bar x (b ∷ c ∷ rest)) (is_pair x b c) refl refl (within (after_pair x b) rest) (within (after x b) (c ∷ rest))

-- ---- the first alternative is what stands before it
abbrev pub Cut : Context → List ℕ → Type 0
Cut x xs = alternatives_from x xs ≡ take (length xs - length (left_of x xs)) xs ∷ behind (left_of x xs)

onto : (b n m : ℕ) (ps : List (List ℕ)) (xs : List ℕ) (more : List (List ℕ)) → m ≡ suc n → ps ≡ take n xs ∷ more → onto_first b ps ≡ take m (b ∷ xs) ∷ more
onto b n m ps xs more k e = rw k (ap (onto_first b) e)

cut_lone : (x : Context) (b : ℕ) (m : Bool) → is_bar x (b ∷ []) ≡ m → Cut x (b ∷ [])
cut_lone x b true e = rw e refl
cut_lone x b false e = rw e refl

cut_step : (x : Context) (b c : ℕ) (rest : List ℕ) (m p : Bool) → is_bar x (b ∷ c ∷ rest) ≡ m → is_pair x b c ≡ p → Cut (after_pair x b) rest → Cut (after x b) (c ∷ rest) → Cut x (b ∷ c ∷ rest)
cut_step x b c rest true p e pair two one =
    let none : length (b ∷ c ∷ rest) - length (b ∷ c ∷ rest) ≡ 0 = omega arith in
    rw e (rw none refl)
cut_step x b c rest false true e pair two one =
    let y = after_pair x b in
    let left = left_of y rest in
    let n = length rest - length left in
    let k : length (c ∷ rest) - length left ≡ suc n = omega (arith, within y rest) in
    let m : length (b ∷ c ∷ rest) - length left ≡ suc (length (c ∷ rest) - length left) = omega (arith, within y rest) in
    rw (e, pair) (onto b (length (c ∷ rest) - length left) (length (b ∷ c ∷ rest) - length left) (onto_first c (alternatives_from y rest)) (c ∷ rest) (behind left) m
    (onto c n (length (c ∷ rest) - length left) (alternatives_from y rest) rest (behind left) k two))
cut_step x b c rest false false e pair two one =
    let y = after x b in
    let left = left_of y (c ∷ rest) in
    let n = length (c ∷ rest) - length left in
    let m : length (b ∷ c ∷ rest) - length left ≡ suc n = omega (arith, within y (c ∷ rest)) in
    rw (e, pair) (onto b n (length (b ∷ c ∷ rest) - length left) (alternatives_from y (c ∷ rest)) (c ∷ rest) (behind left) m one)

pub cut : (x : Context) (xs : List ℕ) → Cut x xs
cut x [] = refl
cut x (b ∷ []) = cut_lone x b (is_bar x (b ∷ [])) refl
cut x (b ∷ c ∷ rest) = cut_step x b c rest (is_bar x (b ∷ c ∷ rest)) (is_pair x b c) refl refl (cut (after_pair x b) rest) (cut (after x b) (c ∷ rest))

-- the same of the whole pattern, by what is left
pub cut_at : (xs left : List ℕ) → left ≡ left_of at_beginning xs → alternatives xs ≡ take (length xs - length left) xs ∷ behind left
cut_at xs left e = subst (λ (l : List ℕ). alternatives xs ≡ take (length xs - length l) xs ∷ behind l) (sym e) (cut at_beginning xs)

pub behind_none : (left : List ℕ) → length left < 1 → behind left ≡ []
behind_none [] none = refl
behind_none (b ∷ rest) none = absurd (omega (arith, none))

pub behind_some : (left : List ℕ) → 1 ≤ length left → behind left ≡ alternatives (take (length left - 1) (drop 1 left))
behind_some [] some = absurd (omega (arith, some))
behind_some (b ∷ rest) some = ap alternatives (sym (take_all (length (b ∷ rest) - 1) rest (omega arith)))
