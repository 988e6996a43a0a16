-- Classes of characters: a step on in a pattern, and how many classes it may open.
use Rattle.std.proofs.Common.{◌≡◌, ℕ, ◌+◌, ◌-◌, ◌≤◌, true, false, Bool, List, [], ◌∷◌, length, take, drop, slice_index_or, sym, ap, arith}
use Rattle.std.proofs.lemmas.List.{take_all}
use Rattle.lrlex_report.specs.declared.warnings.pattern_classes.Context.{Context}
use Rattle.lrlex_report.specs.PatternClasses.{after, after_pair, is_pair, from_first}

-- past an escape or an operation
pub passes_pair : (x : Context) (xs : List ℕ) (test : Context → List ℕ → Bool) → 2 ≤ length xs → is_pair x (slice_index_or xs 0 0) (slice_index_or xs 1 0) ≡ true → test x xs ≡ false
    → from_first test x xs ≡ from_first test (after_pair x (slice_index_or xs 0 0)) (take (length xs - 2) (drop 2 xs))
passes_pair x [] test long pair none = absurd (omega (arith, long))
passes_pair x (b ∷ []) test long pair none = absurd (omega (arith, long))
passes_pair x (b ∷ c ∷ rest) test long pair none =
    rw none (rw pair (ap (from_first test (after_pair x b)) (sym (take_all (length (b ∷ c ∷ rest) - 2) rest (omega arith)))))

-- past another byte
pub passes : (x : Context) (xs : List ℕ) (test : Context → List ℕ → Bool) → 2 ≤ length xs → is_pair x (slice_index_or xs 0 0) (slice_index_or xs 1 0) ≡ false → test x xs ≡ false
    → from_first test x xs ≡ from_first test (after x (slice_index_or xs 0 0)) (take (length xs - 1) (drop 1 xs))
passes x [] test long single none = absurd (omega (arith, long))
passes x (b ∷ []) test long single none = absurd (omega (arith, long))
passes x (b ∷ c ∷ rest) test long single none =
    rw none (rw single (ap (from_first test (after x b)) (sym (take_all (length (b ∷ c ∷ rest) - 1) (c ∷ rest) (omega arith)))))

-- a byte opens one class at most
grows : (x : Context) (b : ℕ) → (after x b).classes ≤ x.classes + 1
grows x b = grind arith

-- so no more classes are open than bytes are passed
pub fits : (x : Context) (xs : List ℕ) → 1 ≤ length xs → (after x (slice_index_or xs 0 0)).classes + length (take (length xs - 1) (drop 1 xs)) ≤ x.classes + length xs
fits x [] long = absurd (omega (arith, long))
fits x (b ∷ xs) long =
    let e : take (length (b ∷ xs) - 1) xs ≡ xs = take_all (length (b ∷ xs) - 1) xs (omega arith) in
    rw e (omega (arith, grows x b))
