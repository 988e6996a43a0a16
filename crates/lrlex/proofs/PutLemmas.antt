-- What is moved in a list, and what is put between its parts.
use Rattle.std.proofs.Common.{◌≡◌, ℕ, suc, ◌+◌, ◌-◌, ◌<◌, ◌≤◌, Bool, true, false, cond, List, [], ◌∷◌, ◌++◌, length, map, set, take, drop, get_or, refl, sym, ap, ap₂, ◌∙◌, subst, inl, inr, arith}
use Rattle.std.proofs.lemmas.Bool.{cases_lt, ltb-true, lt-ltb}
use Rattle.std.proofs.lemmas.List.{append-nil, append_assoc, length-append, length-map, length-take-le, length-drop, map-append, map-set, take_all, drop_all, take_at, drop_at, take-append-drop, get_or-map, get_or-append_right, get_or-drop, set-append_right}
use Rattle.std.proofs.lemmas.List.Edits.{map_over_more}
use Rattle.lrlex_rules.specs.Tiling.{Item, Lexeme, Error, rebased}
use Rattle.lrlex_boundaries.specs.Boundaries.{Boundary, boundary_at}
use Rattle.lrlex_boundaries.specs.Moves.{AreSorted}
use Rattle.lrlex.specs.Moves.{begins_before}
use Rattle.lrlex.specs.Lookahead.{items_before}

-- ---- items that are moved where they are

-- those from `first` on, moved as far as index i
abbrev pub moved_up_to : {A : Type 0} → (A → Item) → (Item → Item) → List A → ℕ → ℕ → List Item
moved_up_to view f old first i =
    map view (take first old) ++ (map f (take (i - first) (map view (drop first old))) ++ drop (i - first) (map view (drop first old)))

module _ {A : Type 0} (view : A → Item) (f : Item → Item) (old : List A) (first : ℕ) where
  pub move_none : map view old ≡ moved_up_to view f old first first
  move_none =
      let none : 0 ≡ first - first = omega arith in
      let rest = map view (drop first old) in
      ap (map view) (sym (take-append-drop first old)) ∙ map-append view (take first old) (drop first old)
      ∙ ap (λ k. map view (take first old) ++ (map f (take k rest) ++ drop k rest)) none

  pub move_all : (items : List A) (i : ℕ) → length old ≤ i → map view items ≡ moved_up_to view f old first i →
      map view items ≡ map view (take first old) ++ map f (map view (drop first old))
  move_all items i all is =
      let k : ℕ = i - first in
      let rest = map view (drop first old) in
      let short : length rest ≤ k = omega (arith, length-map (drop first old) view, length-drop first old) in
      is ∙ ap₂ (λ xs ys. map view (take first old) ++ (map f xs ++ ys)) (take_all k rest short) (drop_all k rest short) ∙ ap (λ xs. map view (take first old) ++ xs) (append-nil (map f rest))

  module _ (items : List A) (i : ℕ) (ge : first ≤ i) (lt : i < length old) (same : length items ≡ length old) (is : map view items ≡ moved_up_to view f old first i) where
    k : ℕ
    k = i - first

    front : List Item
    front = map view (take first old)

    rest : List Item
    rest = map view (drop first old)

    done : List Item
    done = map f (take (i - first) (map view (drop first old)))

    front_len : length front ≡ first
    unfolding front
    front_len = length-map (take first old) view ∙ length-take-le first old (omega arith)

    rest_len : length rest ≡ length old - first
    unfolding rest
    rest_len = length-map (drop first old) view ∙ length-drop first old

    done_len : length done ≡ k
    unfolding done k
    done_len = length-map (take (i - first) (map view (drop first old))) f ∙ length-take-le (i - first) (map view (drop first old)) (omega (arith, length-map (drop first old) view, length-drop first old))

    there : (x : A) → x ≡ get_or items i x → view x ≡ get_or (done ++ drop k rest) k (view x)
    unfolding front rest done k
    there x at =
        ap view at ∙ sym (get_or-map view items i x (view x) (omega arith)) ∙ ap (λ xs. get_or xs i (view x)) is
        ∙ get_or-append_right front (done ++ drop k rest) first i (view x) front_len ge

    -- the item that is moved next stands as it did
    pub move_at : (x : A) → x ≡ get_or items i x → view x ≡ get_or (map view (drop first old)) (i - first) (view x)
    unfolding rest k
    move_at x at =
        let all : k + (k - k) ≡ k = omega arith in
        there x at ∙ get_or-append_right done (drop k rest) k k (view x) done_len (omega arith) ∙ get_or-drop k rest (k - k) (view x) ∙ ap (λ j. get_or rest j (view x)) all

    -- and it is moved
    pub move_one : (x v : A) → x ≡ get_or items i x → view v ≡ f (view x) → map view (set items i v) ≡ moved_up_to view f old first (i + 1)
    unfolding front rest done k
    move_one x v at moved =
        let more : k + 1 ≡ (i + 1) - first = omega arith in
        map-set view items i v ∙ ap (set (map view items) i) moved ∙ ap (λ xs. set xs i (f (view x))) is
        ∙ set-append_right front (done ++ drop k rest) first i (f (view x)) front_len ge
        ∙ ap (λ xs. front ++ xs) (map_over_more f rest (done ++ drop k rest) k (view x) (omega (arith, rest_len)) refl (there x at))
        ∙ ap (λ j. front ++ (map f (take j rest) ++ drop j rest)) more

-- items that stay where they are
rebased_same : (p : ℕ) (i : Item) → rebased p p i ≡ i
rebased_same p (Lexeme id start len faulty) = let same : (start + p) - p ≡ start = omega arith in ap (λ n. Lexeme id n len faulty) same
rebased_same p (Error start end state) =
    let first : (start + p) - p ≡ start = omega arith in
    let last : (end + p) - p ≡ end = omega arith in
    ap₂ (λ m n. Error m n state) first last

all_same : (p : ℕ) (xs : List Item) → map (rebased p p) xs ≡ xs
all_same p [] = refl
all_same p (x ∷ xs) = ap₂ ◌∷◌ (rebased_same p x) (all_same p xs)

pub all_stay : {A : Type 0} (view : A → Item) (p q : ℕ) (old : List A) (first : ℕ) → p ≡ q → map view old ≡ map view (take first old) ++ map (rebased p q) (map view (drop first old))
all_stay view p q old first same =
    ap (map view) (sym (take-append-drop first old)) ∙ map-append view (take first old) (drop first old)
    ∙ ap (λ xs. map view (take first old) ++ xs) (sym (all_same p (map view (drop first old))) ∙ ap (λ r. map (rebased p r) (map view (drop first old))) same)

-- ---- items before a place

earlier : (p q : ℕ) (x : Item) → p ≤ q → begins_before p x ≡ true → begins_before q x ≡ true
earlier p q (Lexeme id start len faulty) le h = let lt = ltb-true start p h in lt-ltb start q (omega arith)
earlier p q (Error start end state) le h = let lt = ltb-true start p h in lt-ltb start q (omega arith)

fewer_of : (a b : Bool) (x : Item) (xs ys : List Item) → (a ≡ true → b ≡ true) → length xs ≤ length ys → length (cond a (x ∷ xs) []) ≤ length (cond b (x ∷ ys) [])
fewer_of false b x xs ys on le = omega arith
fewer_of true b x xs ys on le = subst (λ c. suc (length xs) ≤ length (cond c (x ∷ ys) [])) (sym (on refl)) (omega arith)

-- fewer begin before an earlier place
fewer_before : (p q : ℕ) (xs : List Item) → p ≤ q → length (items_before p xs) ≤ length (items_before q xs)
fewer_before p q [] le = omega arith
fewer_before p q (x ∷ xs) le = fewer_of (begins_before p x) (begins_before q x) x (items_before p xs) (items_before q xs) (earlier p q x le) (fewer_before p q xs le)

pub places_rise : (bounds : List Boundary) (j k : ℕ) → AreSorted bounds → j ≤ k → k < length bounds → (boundary_at bounds j).place ≤ (boundary_at bounds k).place
places_rise bounds j k sorted le within = elim (cases_lt j k) [
  | inl lt ↦ omega (arith, sorted.rising j k lt within)
  | inr ge ↦ let same : j ≡ k = omega arith in omega (arith, ap (λ i. (boundary_at bounds i).place) same)
]

pub ends_rise : {A : Type 0} (view : A → Item) (xs : List A) (first last p q : ℕ) → p ≤ q → first ≤ length xs → last ≤ length xs →
    map view (take first xs) ≡ items_before p (map view xs) → map view (take last xs) ≡ items_before q (map view xs) → first ≤ last
ends_rise view xs first last p q le a b before after =
    omega (arith, fewer_before p q (map view xs) le, ap length before, ap length after, length-map (take first xs) view, length-map (take last xs) view, length-take-le first xs a, length-take-le last xs b)

-- ---- what is put between

pub put_end : {A : Type 0} (xs found now : List A) (first many : ℕ) → length xs ≤ many → now ≡ take first xs ++ (found ++ drop many xs) → now ≡ take first xs ++ found
put_end xs found now first many all is = is ∙ ap (λ ys. take first xs ++ (found ++ ys)) (drop_all many xs all) ∙ ap (λ ys. take first xs ++ ys) (append-nil found)

module _ {A : Type 0} (view : A → Item) (old found now : List A) (first last n : ℕ) (within : first ≤ length old) (count : n ≡ length found) (is : now ≡ take first old ++ (found ++ drop last old)) where
  parts : now ≡ (take first old ++ found) ++ drop last old
  parts = is ∙ sym (append_assoc (take first old) found (drop last old))

  front_count : length (take first old ++ found) ≡ first + n
  front_count = omega (arith, length-append (take first old) found, length-take-le first old within)

  pub put_tail : map view (drop (first + n) now) ≡ map view (drop last old)
  put_tail = ap (map view) (ap (drop (first + n)) parts ∙ drop_at (take first old ++ found) (drop last old) (first + n) front_count)

  pub put_front : map view (take (first + n) now) ≡ map view (take first old) ++ map view found
  put_front = ap (map view) (ap (take (first + n)) parts ∙ take_at (take first old ++ found) (drop last old) (first + n) front_count) ∙ map-append view (take first old) found

  -- with the rest moved
  pub put_moved : (f : Item → Item) (moved : List A) (tail : List Item) → map view (drop last old) ≡ tail →
      map view moved ≡ map view (take (first + n) now) ++ map f (map view (drop (first + n) now)) → map view moved ≡ (map view (take first old) ++ map view found) ++ map f tail
  put_moved f moved tail rest m = m ∙ ap₂ (λ xs ys. xs ++ map f ys) put_front (put_tail ∙ rest)
