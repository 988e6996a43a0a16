-- The laws of the place of a text in a list.
use Rattle.std.proofs.Common.{◌≡◌, ℕ, ◌+◌, ◌<◌, Bool, true, false, cond, List, length, get_or, drop, Some, None, sym, refl, ap, ◌∙◌, arith}
use Rattle.std.specs.Prelude.{not, nat_lt, position, bytes_eq}
use Rattle.std.specs.List.{position_or_len}
use Rattle.std.proofs.lemmas.Bool.Decides.{nat_tests}
use Rattle.std.proofs.lemmas.List.{at_drop_more}

-- the test that a text is this one
abbrev pub is_text : (text : List ℕ) → List ℕ → Bool
is_text text known = bytes_eq known text

-- the place of the first such text behind n others
pub place_after : (text : List ℕ) (xs : List (List ℕ)) (n : ℕ) (x : List ℕ) → (n < length xs) × (x ≡ get_or xs n x)
    → position_or_len (is_text text) (drop n xs) ≡ cond (not (bytes_eq x text)) (1 + position_or_len (is_text text) (drop (n + 1) xs)) 0
place_after text xs n x here =
    at_drop_more (position_or_len (is_text text)) xs n x here.0
    ∙ ap (λ y. cond (not (bytes_eq y text)) (1 + position_or_len (is_text text) (drop (n + 1) xs)) 0) (sym here.1)

pub position_is : (text : List ℕ) (xs : List (List ℕ)) (n : ℕ) → position_or_len (is_text text) xs ≡ n → n < length xs → Some n ≡ position (is_text text) xs
position_is text xs n place within = let test : nat_lt n (length xs) ≡ true = grind (arith, nat_tests) in rw (place, test) refl

pub position_none : (text : List ℕ) (xs : List (List ℕ)) → position_or_len (is_text text) xs ≡ length xs → None ≡ position (is_text text) xs
position_none text xs place = let test : nat_lt (length xs) (length xs) ≡ false = grind (arith, nat_tests) in rw (place, test) refl
