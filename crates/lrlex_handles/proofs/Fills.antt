-- A buffer that is filled item by item.
use Rattle.std.proofs.Common.{◌≡◌, ℕ, ◌+◌, ◌-◌, Option, option_map, unwrap_or, slice_get, ◌<◌, ◌≤◌, ◌⊎◌, inl, inr, List, [], ◌∷◌, length, refl, sym, ◌∙◌, ap, subst, take, drop, set, get_or, map, arith, Result, Ok, Err, IfOk}
use Prim.Native.Nat.{suc, zero, min}
use Rattle.std.proofs.lemmas.Bool.{cases_lt}
use Rattle.std.proofs.lemmas.List.{length-map}
use Rattle.std.proofs.lemmas.Option.{slice_get-map}
use Rattle.std.proofs.Math.Nat.{min-eq_left, min-eq_right}
use Rattle.lrlex_boundaries.specs.Boundaries.{Boundary}
use Rattle.lrlex_rules.specs.Definition.{Definition}
use Rattle.lrlex.specs.LexRun.{end_of, end_state_of}
use Rattle.lrlex.specs.Reach.{IsRun}
use Rattle.lrlex.specs.Tiling.{Item}
use Rattle.lrlex_handles.specs.Answers.{outcome, lexed_by}
use Rattle.lrlex_handles.specs.Buffers.{filled}
use Rattle.lrlex_handles.specs.declared.structs.Lexed.{Lexed}

abbrev no_less : {n : ℕ} → suc n ≤ zero → ⊥
no_less h = omega (arith, h)

-- what the item at i gives goes to the index i
pub put_next : {X T : Type 0} (f : X → T → T) (xs : List X) (d x : X) (room : List T) (v : T) (i : ℕ) → i < length xs → i < length room
    → get_or xs i d ≡ x → ((t : T) → f x t ≡ v) → set (filled f (take i xs) room) i v ≡ filled f (take (suc i) xs) room
put_next f [] d x room v i lt lt' is gives = let z : ⊥ = omega (arith, lt) in absurd z
put_next f (y ∷ xs) d x [] v i lt lt' is gives = let z : ⊥ = omega (arith, lt') in absurd z
put_next f (y ∷ xs) d x (t ∷ ts) v zero lt lt' is gives = ap (λ u. u ∷ ts) (sym (ap (λ z. f z t) is ∙ gives t))
put_next f (y ∷ xs) d x (t ∷ ts) v (suc i) lt lt' is gives =
    let le : i < length xs = omega (arith, lt) in let le' : i < length ts = omega (arith, lt') in ap (λ us. f y t ∷ us) (put_next f xs d x ts v i le le' is gives)

-- an item that gives what was there leaves all as it is
pub keep_next : {X T : Type 0} (f : X → T → T) (xs : List X) (d x : X) (room : List T) (i : ℕ) → i < length xs
    → get_or xs i d ≡ x → ((t : T) → f x t ≡ t) → filled f (take i xs) room ≡ filled f (take (suc i) xs) room
keep_next f [] d x room i lt is gives = let z : ⊥ = omega (arith, lt) in absurd z
keep_next f (y ∷ xs) d x [] zero lt is gives = refl
keep_next f (y ∷ xs) d x [] (suc i) lt is gives = refl
keep_next f (y ∷ xs) d x (t ∷ ts) zero lt is gives = ap (λ u. u ∷ ts) (sym (ap (λ z. f z t) is ∙ gives t))
keep_next f (y ∷ xs) d x (t ∷ ts) (suc i) lt is gives = let le : i < length xs = omega (arith, lt) in ap (λ us. f y t ∷ us) (keep_next f xs d x ts i le is gives)

-- all that there is, or all that there is room for
pub all_filled : {X T : Type 0} (f : X → T → T) (xs : List X) (room : List T) (i : ℕ) → (length xs ≤ i) ⊎ (length room ≤ i)
    → filled f (take i xs) room ≡ filled f xs room
all_filled f [] room zero h = refl
all_filled f [] room (suc i) h = refl
all_filled f (x ∷ xs) [] zero h = refl
all_filled f (x ∷ xs) [] (suc i) h = refl
all_filled f (x ∷ xs) (t ∷ ts) zero (inl h) = absurd (no_less h)
all_filled f (x ∷ xs) (t ∷ ts) zero (inr h) = absurd (no_less h)
all_filled f (x ∷ xs) (t ∷ ts) (suc i) (inl h) = let le : length xs ≤ i = omega (arith, h) in ap (λ us. f x t ∷ us) (all_filled f xs ts i (inl le))
all_filled f (x ∷ xs) (t ∷ ts) (suc i) (inr h) = let le : length ts ≤ i = omega (arith, h) in ap (λ us. f x t ∷ us) (all_filled f xs ts i (inr le))

-- as a loop counts
pub counted : {X T : Type 0} (f : X → T → T) (xs : List X) (room us : List T) (i : ℕ) → us ≡ filled f (take (suc i) xs) room → us ≡ filled f (take (i + 1) xs) room
counted f xs room us i h = let e : suc i ≡ i + 1 = omega arith in subst (λ n. us ≡ filled f (take n xs) room) e h

-- where the lesser of two is reached, one of them is
pub least_below : (a b i : ℕ) → min a b ≤ i → (a ≤ i) ⊎ (b ≤ i)
least_below a b i h = elim (cases_lt a b) [
  | inl l ↦ let e : min a b ≡ a = let le : a ≤ b = omega (arith, l) in min-eq_left le in inl (subst (λ n. n ≤ i) e h)
  | inr g ↦ let e : min a b ≡ b = min-eq_right g in inr (subst (λ n. n ≤ i) e h)
]

-- as a loop ends
pub loop_end : {X T : Type 0} (f : X → T → T) (xs : List X) (room us : List T) (i n : ℕ) → n ≡ min (length xs) (length room) → n ≤ i
    → us ≡ filled f (take i xs) room → us ≡ filled f xs room
loop_end f xs room us i n is le h = h ∙ all_filled f xs room i (least_below (length xs) (length room) i (subst (λ k. k ≤ i) is le))

-- items that are seen as others
pub filled-map : {X Y T : Type 0} (g : X → Y) (f : Y → T → T) (xs : List X) (room : List T) → filled (λ x. f (g x)) xs room ≡ filled f (map g xs) room
filled-map g f [] room = refl
filled-map g f (x ∷ xs) [] = refl
filled-map g f (x ∷ xs) (t ∷ ts) = ap (λ us. f (g x) t ∷ us) (filled-map g f xs ts)

-- the outcome, by the items as they are seen
pub outcome-map : {X : Type 0} (f : X → Item) (xs : List X) (end q : ℕ)
    → outcome (option_map f (slice_get xs (length xs - 1))) (length xs) end q ≡ outcome (slice_get (map f xs) (length (map f xs) - 1)) (length (map f xs)) end q
outcome-map f xs end q = subst (λ k. outcome (option_map f (slice_get xs (length xs - 1))) (length xs) end q ≡ outcome (slice_get (map f xs) (k - 1)) k end q) (sym (length-map xs f))
    (ap (λ o. outcome o (length xs) end q) (sym (slice_get-map f xs (length xs - 1))))

-- how a run went, by its items as they are seen and by its boundaries
pub lexed_as : {X : Type 0} (f : X → Item) (xs ys : List X) (bounds : List Boundary) (l : Lexed) (e : ℕ) (o : Option ℕ)
    → l ≡ outcome (option_map f (slice_get ys (length ys - 1))) (length ys) e (unwrap_or o 0) → ys ≡ xs → e ≡ end_of bounds → o ≡ end_state_of bounds → l ≡ lexed_by (map f xs) bounds
lexed_as f xs ys bounds l e o is same ends state =
    is ∙ ap (λ zs. outcome (option_map f (slice_get zs (length zs - 1))) (length zs) e (unwrap_or o 0)) same
    ∙ ap (λ k. outcome (option_map f (slice_get xs (length xs - 1))) (length xs) k (unwrap_or o 0)) ends
    ∙ ap (λ p. outcome (option_map f (slice_get xs (length xs - 1))) (length xs) (end_of bounds) (unwrap_or p 0)) state
    ∙ outcome-map f xs (end_of bounds) (unwrap_or (end_state_of bounds) 0)

-- an outcome with this count
abbrev pub with_count : ℕ → Lexed → Lexed
with_count n l = record { count = n; end = l.end; state = l.state; stopped = l.stopped; unmatched = l.unmatched }

pub counted_as : (l m : Lexed) (j k : ℕ) → l ≡ m → j ≡ k → with_count j l ≡ with_count k m
counted_as l m j k p q = ap (λ (n : ℕ). with_count n l) q ∙ ap (λ (x : Lexed). with_count k x) p

-- a run of what is the same
pub same_run : (d e : Definition) (t u : List ℕ) (is js : List Item) (bs cs : List Boundary) → d ≡ e → t ≡ u → is ≡ js → bs ≡ cs → IsRun e u js cs → IsRun d t is bs
same_run d e t u is js bs cs p q r s h =
    subst (λ x. IsRun x t is bs) (sym p) (subst (λ x. IsRun e x is bs) (sym q) (subst (λ x. IsRun e u x bs) (sym r) (subst (λ x. IsRun e u js x) (sym s) h)))

-- what holds of an answer, by what holds of it
pub if_ok : {A E : Type 0} (P Q : A → Type 0) (r : Result A E) → ((x : A) → P x → Q x) → IfOk r P → IfOk r Q
if_ok P Q (Ok x) f h = f x h
if_ok P Q (Err e) f h = h

-- items from an index on, seen as others
pub drop_map : {X Y : Type 0} (g : X → Y) (n : ℕ) (xs : List X) → map g (drop n xs) ≡ drop n (map g xs)
drop_map g zero [] = refl
drop_map g zero (x ∷ xs) = refl
drop_map g (suc n) [] = refl
drop_map g (suc n) (x ∷ xs) = drop_map g n xs

-- the last item, as it is seen
pub last_seen : {X : Type 0} (f : X → Item) (xs : List X) → slice_get (map f xs) (length (map f xs) - 1) ≡ option_map f (slice_get xs (length xs - 1))
last_seen f xs = subst (λ k. slice_get (map f xs) (k - 1) ≡ option_map f (slice_get xs (length xs - 1))) (sym (length-map xs f)) (slice_get-map f xs (length xs - 1))
