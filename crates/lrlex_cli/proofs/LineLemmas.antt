-- The items whose lines are written.
use Rattle.std.proofs.Common.{◌≡◌, ℕ, suc, zero, ◌+◌, List, [], ◌∷◌, ◌++◌, map, take, drop, flat_map, length, ◌<◌, slice_index_or, refl, sym, ap, ◌∙◌, arith, append_assoc, append-nil}
use Rattle.std.specs.List.{All}

-- what holds of the items as they are seen holds of the items
pub of_items : {X Y : Type 0} (P : Y → Type 0) (f : X → Y) (xs : List X) → All P (map f xs) → All (λ (x : X). P (f x)) xs
of_items P f [] h k d lt = absurd (omega arith)
of_items P f (x ∷ xs) h zero d lt = h zero (f d) (omega arith)
of_items P f (x ∷ xs) h (suc k) d lt = of_items P f xs (λ j e less. h (suc j) e (omega arith)) k d (omega arith)

-- what is said of the first items, and of the next one
pub said_next : {X Y : Type 0} (g : Y → List ℕ) (f : X → Y) (xs : List X) (k : ℕ) (x : X) → k < length xs → x ≡ slice_index_or xs k x
    → flat_map g (map f (take (k + 1) xs)) ≡ flat_map g (map f (take k xs)) ++ g (f x)
said_next g f [] k x less is = absurd (omega (arith, less))
said_next g f (y ∷ ys) zero x less is = append-nil (g (f y)) ∙ ap (λ z. g (f z)) (sym is)
said_next g f (y ∷ ys) (suc k) x less is =
    let e : suc k + 1 ≡ suc (k + 1) = omega arith in
    rw e (ap (λ l. g (f y) ++ l) (said_next g f ys k x (omega (arith, less)) is) ∙ sym (append_assoc (g (f y)) (flat_map g (map f (take k ys))) (g (f x))))

-- and of the others
pub said_rest : {X Y : Type 0} (g : Y → List ℕ) (f : X → Y) (xs : List X) (n : ℕ)
    → flat_map g (map f (take n xs)) ++ flat_map g (map f (drop n xs)) ≡ flat_map g (map f xs)
said_rest g f [] zero = refl
said_rest g f [] (suc n) = refl
said_rest g f (y ∷ ys) zero = refl
said_rest g f (y ∷ ys) (suc n) =
    append_assoc (g (f y)) (flat_map g (map f (take n ys))) (flat_map g (map f (drop n ys))) ∙ ap (λ l. g (f y) ++ l) (said_rest g f ys n)
