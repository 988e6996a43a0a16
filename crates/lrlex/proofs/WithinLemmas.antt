-- What stands before a boundary, and what from it on.
use Rattle.std.proofs.Common.{◌≡◌, ℕ, zero, suc, ◌+◌, ◌^◌, ◌<◌, ◌≤◌, true, false, true≢false, List, [], ◌∷◌, ◌++◌, length, map, take, drop, get_or, Option, None, Some, slice_get, refl, sym, ap, ◌∙◌, subst, arith, All}
use Rattle.std.specs.List.Sorted.{IsPartitionedBy}
use Rattle.std.proofs.lemmas.Bool.{cond-true, cond-false, le-ltb, lt-ltb}
use Rattle.std.proofs.lemmas.Option.{none-some, same_Some, get_or_from_slice_get, slice_get_within}
use Rattle.std.proofs.lemmas.List.{drop-drop, length-drop, length-map, get_or-map}
use Rattle.std.proofs.lemmas.List.Elements.{All-append, All-cons, All-nil, All-weaker, All-push, All-head, All-tail}
use Rattle.lrlex_rules.specs.Definition.{Definition}
use Rattle.lrlex_rules.specs.Active.{rule_at, lexeme_id}
use Rattle.lrlex_rules.specs.Tiling.{Item, Lexeme, Error, Tile, End, Done, NoMatch, NoId, NoTarget, stack_past, IsTiling, lexeme_of, tile_items, items, boundaries, lexemes}
use Rattle.lrlex.specs.Moves.{IsMovable, begins_before, items_from}
use Rattle.lrlex_rules.proofs.TilingLemmas.{Wins-le}
use Rattle.lrlex.proofs.TailLemmas.{tail_tiling}

-- ---- all that follows a boundary stands within the text

pub IsWithin : ℕ → ℕ → Item → Type 0
IsWithin low high (Lexeme id start len faulty) = (low ≤ start) × (start + len ≤ high)
IsWithin low high (Error start end state) = (low ≤ start) × (start ≤ high) × (low ≤ end) × (end ≤ high)

lexeme_within : (o : Option ℕ) (low high place len : ℕ) → low ≤ place → place + len ≤ high → All (IsWithin low high) (lexeme_of o place len)
unfolding IsWithin
lexeme_within None low high place len le within = All-nil (IsWithin low high)
lexeme_within (Some id) low high place len le within = All-push (IsWithin low high) [] (Lexeme id place len false) (All-nil (IsWithin low high)) (le, within)

error_within : (low high place : ℕ) (state : Option ℕ) → low ≤ place → place ≤ high → All (IsWithin low high) (Error place place state ∷ [])
unfolding IsWithin
error_within low high place state le within = All-push (IsWithin low high) [] (Error place place state) (All-nil (IsWithin low high)) (le, within, le, within)

pub items_within : (d : Definition) (text : List ℕ) (low place : ℕ) (stack : List ℕ) (ts : List Tile) (e : End) → IsTiling d (drop place text) stack ts e → low ≤ place → place ≤ length text →
    All (IsWithin low (length text)) (items d place ts e)
items_within d text low place stack [] Done is le within = All-nil (IsWithin low (length text))
items_within d text low place stack [] (NoMatch q) is le within = error_within low (length text) place (Some q) le within
items_within d text low place stack [] NoId is le within = error_within low (length text) place None le within
items_within d text low place stack [] (NoTarget t) is le within =
    let n = Wins-le d _ (drop place text) t.rule t.len is.0 in
    All-append (IsWithin low (length text)) (tile_items d place t) (Error place place None ∷ [])
    (lexeme_within (lexeme_id (rule_at d t.rule)) low (length text) place t.len le (omega (arith, n, length-drop place text))) (error_within low (length text) place None le within)
items_within d text low place stack (t ∷ ts) e is le within =
    let n = Wins-le d _ (drop place text) t.rule t.len is.0.wins in
    All-append (IsWithin low (length text)) (tile_items d place t) (items d (place + t.len) ts e)
    (lexeme_within (lexeme_id (rule_at d t.rule)) low (length text) place t.len le (omega (arith, n, length-drop place text)))
    (items_within d text low (place + t.len) (stack_past d stack t) ts e (subst (λ w. IsTiling d w (stack_past d stack t) ts e) (drop-drop t.len place text) is.1) (omega arith) (omega (arith, n, length-drop place text)))

movable : (p q high : ℕ) → high + q < p + 2 ^ 64 → (i : Item) → IsWithin p high i → IsMovable p q i
unfolding IsWithin
movable p q high room (Lexeme id start len faulty) h = (h.0, omega (arith, h.1), omega (arith, h.1))
movable p q high room (Error start end state) h = (h.0, omega (arith, h.1), h.2, omega (arith, h.3))

pub all_movable : (p q high : ℕ) (xs : List Item) → high + q < p + 2 ^ 64 → All (IsWithin p high) xs → All (IsMovable p q) xs
all_movable p q high xs room h = All-weaker (IsWithin p high) (IsMovable p q) (movable p q high room) xs h

-- places rise
pub bounds_within : (d : Definition) (text : List ℕ) (low place : ℕ) (stack : List ℕ) (ts : List Tile) (e : End) → IsTiling d (drop place text) stack ts e → low ≤ place → place ≤ length text →
    All (λ b. (low ≤ b.0) × (b.0 ≤ length text)) (boundaries d place stack ts)
bounds_within d text low place stack [] e is le within = All-push (λ (b : ℕ × List ℕ). (low ≤ b.0) × (b.0 ≤ length text)) [] (place, stack) (All-nil (λ (b : ℕ × List ℕ). (low ≤ b.0) × (b.0 ≤ length text))) (le, within)
bounds_within d text low place stack (t ∷ ts) e is le within =
    let n = Wins-le d _ (drop place text) t.rule t.len is.0.wins in
    All-cons (λ (b : ℕ × List ℕ). (low ≤ b.0) × (b.0 ≤ length text)) (place, stack) (boundaries d (place + t.len) (stack_past d stack t) ts) (le, within)
    (bounds_within d text low (place + t.len) (stack_past d stack t) ts e (subst (λ w. IsTiling d w (stack_past d stack t) ts e) (drop-drop t.len place text) is.1) (omega arith) (omega (arith, n, length-drop place text)))

-- ---- what comes before

boundary_from : (d : Definition) (place : ℕ) (stack : List ℕ) (ts : List Tile) (k p : ℕ) (s : List ℕ) → slice_get (boundaries d place stack ts) k ≡ Some (p, s) → place ≤ p
boundary_from d place stack [] zero p s at = omega (arith, ap (λ (b : ℕ × List ℕ). b.0) (same_Some _ _ at))
boundary_from d place stack [] (suc k) p s at = absurd (none-some _ at)
boundary_from d place stack (t ∷ ts) zero p s at = omega (arith, ap (λ (b : ℕ × List ℕ). b.0) (same_Some _ _ at))
boundary_from d place stack (t ∷ ts) (suc k) p s at = omega (arith, boundary_from d (place + t.len) (stack_past d stack t) ts k p s at)

abbrev pub AreBefore : ℕ → List Item → Type 0
AreBefore p xs = All (λ i. begins_before p i ≡ true) xs

abbrev pub AreFrom : ℕ → List Item → Type 0
AreFrom p xs = All (λ i. begins_before p i ≡ false) xs

lexeme_before : (o : Option ℕ) (place len p : ℕ) → place < p → AreBefore p (lexeme_of o place len)
lexeme_before None place len p lt = All-nil (λ i. begins_before p i ≡ true)
lexeme_before (Some id) place len p lt = All-push (λ i. begins_before p i ≡ true) [] (Lexeme id place len false) (All-nil (λ i. begins_before p i ≡ true)) (lt-ltb place p lt)

pub lexemes_before : (d : Definition) (text : List ℕ) (place : ℕ) (stack : List ℕ) (ts : List Tile) (e : End) (k p : ℕ) (s : List ℕ) →
    IsTiling d (drop place text) stack ts e → slice_get (boundaries d place stack ts) k ≡ Some (p, s) → AreBefore p (lexemes d place (take k ts))
lexemes_before d text place stack [] e zero p s is at = All-nil (λ i. begins_before p i ≡ true)
lexemes_before d text place stack [] e (suc k) p s is at = All-nil (λ i. begins_before p i ≡ true)
lexemes_before d text place stack (t ∷ ts) e zero p s is at = All-nil (λ i. begins_before p i ≡ true)
lexemes_before d text place stack (t ∷ ts) e (suc k) p s is at =
    All-append (λ i. begins_before p i ≡ true) (tile_items d place t) (lexemes d (place + t.len) (take k ts))
    (lexeme_before (lexeme_id (rule_at d t.rule)) place t.len p (omega (arith, is.0.wins.some, boundary_from d (place + t.len) (stack_past d stack t) ts k p s at)))
    (lexemes_before d text (place + t.len) (stack_past d stack t) ts e k p s (subst (λ w. IsTiling d w (stack_past d stack t) ts e) (drop-drop t.len place text) is.1) at)

within_from : (p high : ℕ) (i : Item) → IsWithin p high i → begins_before p i ≡ false
unfolding IsWithin
within_from p high (Lexeme id start len faulty) h = le-ltb start p h.0
within_from p high (Error start end state) h = le-ltb start p h.0

pub tail_from : (d : Definition) (text : List ℕ) (place : ℕ) (stack : List ℕ) (ts : List Tile) (e : End) (k p : ℕ) (s : List ℕ) →
    IsTiling d (drop place text) stack ts e → place ≤ length text → slice_get (boundaries d place stack ts) k ≡ Some (p, s) → AreFrom p (items d p (drop k ts) e)
tail_from d text place stack ts e k p s is le at =
    let b = bounds_within d text place place stack ts e is (omega arith) le k (p, s) (slice_get_within _ k (p, s) at) in
    let there : get_or (boundaries d place stack ts) k (p, s) ≡ (p, s) = get_or_from_slice_get _ k (p, s) (p, s) at in
    All-weaker (IsWithin p (length text)) (λ i. begins_before p i ≡ false) (within_from p (length text)) _
    (items_within d text p p s (drop k ts) e (tail_tiling d text place stack ts e k p s is at) (omega arith) (omega (arith, b.1, ap (λ (x : ℕ × List ℕ). x.0) there)))

-- ---- items in order, parted at a place

pub record IsParted (p : ℕ) (all xs ys : List Item) : Type 0 where
  pub is : all ≡ xs ++ ys
  pub before : AreBefore p xs
  pub from : AreFrom p ys

from_first : (p : ℕ) (ys : List Item) → AreFrom p ys → items_from p ys ≡ ys
from_first p [] h = refl
from_first p (y ∷ ys) h = cond-false (begins_before p y) (items_from p ys) (y ∷ ys) (All-head (λ i. begins_before p i ≡ false) y ys h)

from_second : (p : ℕ) (xs ys : List Item) → AreBefore p xs → AreFrom p ys → items_from p (xs ++ ys) ≡ ys
from_second p [] ys b f = from_first p ys f
from_second p (x ∷ xs) ys b f =
    cond-true (begins_before p x) (items_from p (xs ++ ys)) (x ∷ xs ++ ys) (All-head (λ i. begins_before p i ≡ true) x xs b)
    ∙ from_second p xs ys (All-tail (λ i. begins_before p i ≡ true) x xs b) f

pub part_from : (p : ℕ) (all xs ys : List Item) → IsParted p all xs ys → items_from p all ≡ ys
part_from p all xs ys h = ap (items_from p) h.is ∙ from_second p xs ys h.before h.from

order : (p : ℕ) (xs ys : List Item) → AreBefore p xs → AreFrom p ys → IsPartitionedBy (begins_before p) (xs ++ ys)
order p [] ys b f i j d le within on = absurd (true≢false (sym on ∙ f j d within))
order p (x ∷ xs) ys b f zero j d le within on = All-head (λ i. begins_before p i ≡ true) x xs b
order p (x ∷ xs) ys b f (suc i) zero d le within on = absurd (omega arith)
order p (x ∷ xs) ys b f (suc i) (suc j) d le within on =
    order p xs ys (All-tail (λ i. begins_before p i ≡ true) x xs b) f i j d (omega arith) (omega arith) on

pub part_order : (p : ℕ) (all xs ys : List Item) → IsParted p all xs ys → IsPartitionedBy (begins_before p) all
part_order p all xs ys h = subst (IsPartitionedBy (begins_before p)) (sym h.is) (order p xs ys h.before h.from)

-- the same of what has these items
pub in_order_of : {A : Type 0} (f : A → Item) (p : ℕ) (xs : List A) → IsPartitionedBy (begins_before p) (map f xs) → IsPartitionedBy (λ x. begins_before p (f x)) xs
in_order_of f p xs h i j d le within on =
    ap (begins_before p) (sym (get_or-map f xs i d (f d) (omega arith)))
    ∙ h i j (f d) le (omega (arith, length-map xs f)) (ap (begins_before p) (get_or-map f xs j d (f d) within) ∙ on)

pub from_point : {A : Type 0} (f : A → Item) (p : ℕ) (xs : List A) (n : ℕ) → n ≤ length xs → ((k : ℕ) (d : A) → k < n → begins_before p (f (get_or xs k d)) ≡ true) →
    ((k : ℕ) (d : A) → n ≤ k → k < length xs → begins_before p (f (get_or xs k d)) ≡ false) → items_from p (map f xs) ≡ map f (drop n xs)
from_point f p [] zero le b after = refl
from_point f p [] (suc n) le b after = absurd (omega arith)
from_point f p (x ∷ xs) zero le b after = cond-false (begins_before p (f x)) (items_from p (map f xs)) (f x ∷ map f xs) (after 0 x (omega arith) (omega arith))
from_point f p (x ∷ xs) (suc n) le b after =
    cond-true (begins_before p (f x)) (items_from p (map f xs)) (f x ∷ map f xs) (b 0 x (omega arith))
    ∙ from_point f p xs n (omega arith) (λ k d lt. b (suc k) d (omega arith)) (λ k d ge lt. after (suc k) d (omega arith) (omega arith))
