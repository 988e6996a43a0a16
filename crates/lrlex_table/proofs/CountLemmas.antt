-- How many dead ends can be known: the rows and places are numbered.
use Rattle.std.proofs.Common.{◌≡◌, zero, suc, ℕ, ◌+◌, ◌*◌, ◌/◌, ◌%◌, ◌<◌, ◌≤◌, Bool, true, false, cond, ◌||◌, nat_eq, List, [], ◌∷◌, length, take, map, Option, Some, None, option_map, unwrap_or, slice_get, vec_len, refl, sym, ap, ◌∙◌, subst, inl, inr, arith}
use Rattle.std.specs.HashMap.{HashMap, IsUnique, hash_map_len}
use Rattle.std.specs.List.{sum_by, list_any, AllByRecursion, IsDistinct}
use Rattle.std.specs.Map.{lookup, keys_of}
use Rattle.std.proofs.Math.Nat.{div-add-mod}
use Rattle.std.proofs.lemmas.List.{length-map}
use Rattle.std.proofs.lemmas.Bool.{cases_Bool, cond-true, and_from, eq-eqb, eqb-true, ne_eqb, true≢false}
use Rattle.std.proofs.lemmas.List.Sums.{sum_by-cons}
use Rattle.std.proofs.lemmas.Map.Entries.{length-keys_of}
use Rattle.std.proofs.lemmas.Map.Steps.{length-le_from_distinct_below}
use Rattle.std.proofs.lemmas.Nat.{mod_below, mul-add-lt, same_from_place}
use Rattle.lrlex_table.specs.DeadEnds.{is_same_end, rows_at, AreWithin, IsWithin}
use Rattle.lrlex_table.specs.Linear.{count_of_rows}
use Rattle.lrlex_table.specs.Tables.{rows_of}
use Rattle.lrlex_table.specs.declared.merged_tables.Part.{Part}
use Rattle.lrlex_table.specs.declared.tables.Tables.{Tables}

-- how many there are of something in the element at this place, 0 past the end
abbrev many_at : {X : Type 0} → (X → ℕ) → List X → ℕ → ℕ
many_at f xs i = unwrap_or (option_map f (slice_get xs i)) 0

-- elements that have many each are numbered one after the other
module _ {X : Type 0} (f : X → ℕ) where
  number_below : (xs : List X) (i r : ℕ) → r < many_at f xs i → sum_by f (take i xs) + r < sum_by f xs
  number_below [] i r lt = absurd (omega (arith, lt))
  number_below (x ∷ xs) zero r lt = omega (arith, lt, sum_by-cons f x xs)
  number_below (x ∷ xs) (suc i) r lt = omega (arith, number_below xs i r lt, sum_by-cons f x xs, sum_by-cons f x (take i xs))

  same_number : (xs : List X) (i j r s : ℕ) → r < many_at f xs i → s < many_at f xs j → sum_by f (take i xs) + r ≡ sum_by f (take j xs) + s → (i ≡ j) × (r ≡ s)
  same_number [] i j r s here there is = absurd (omega (arith, here))
  same_number (x ∷ xs) zero zero r s here there is = (refl, omega (arith, is))
  same_number (x ∷ xs) zero (suc j) r s here there is = absurd (omega (arith, is, here, sum_by-cons f x (take j xs)))
  same_number (x ∷ xs) (suc i) zero r s here there is = absurd (omega (arith, is, there, sum_by-cons f x (take i xs)))
  same_number (x ∷ xs) (suc i) (suc j) r s here there is =
      let rest = same_number xs i j r s here there (omega (arith, is, sum_by-cons f x (take i xs), sum_by-cons f x (take j xs))) in
      (omega (arith, rest.0), rest.1)

-- how many rows the table of a part has
abbrev rows_in_part : Part → ℕ
rows_in_part p = vec_len p.table.wins

-- how many rows the tables of a list have
abbrev rows_in_list : Tables → ℕ
rows_in_list ts = rows_of ts.parts.items

-- the parts of the list at this place
abbrev parts_at : List Tables → ℕ → List Part
parts_at lists list = unwrap_or (option_map (λ ts. ts.parts.items) (slice_get lists list)) []

-- the number of a row among those of all tables
abbrev row_number : List Tables → (list part row : ℕ) → ℕ
row_number lists list part row = sum_by rows_in_list (take list lists) + (sum_by rows_in_part (take part (parts_at lists list)) + row)

at_part : (o : Option Part) → unwrap_or (option_map (λ t. vec_len t.wins) (option_map (λ p. p.table) o)) 0 ≡ unwrap_or (option_map rows_in_part o) 0
at_part None = refl
at_part (Some p) = refl

rows_there : (lists : List Tables) (list part : ℕ) → rows_at lists list part ≡ many_at rows_in_part (parts_at lists list) part
rows_there [] list part = refl
rows_there (ts ∷ lists) zero part = at_part (slice_get ts.parts.items part)
rows_there (ts ∷ lists) (suc list) part = rows_there lists list part

rows_in_all : (lists : List Tables) (list : ℕ) → sum_by rows_in_part (parts_at lists list) ≡ many_at rows_in_list lists list
rows_in_all [] list = refl
rows_in_all (ts ∷ lists) zero = refl
rows_in_all (ts ∷ lists) (suc list) = rows_in_all lists list

module _ (lists : List Tables) (list part row : ℕ) (below : row < rows_at lists list part) where
  in_part : row < many_at rows_in_part (parts_at lists list) part
  in_part = omega (arith, below, rows_there lists list part)

  in_list : sum_by rows_in_part (take part (parts_at lists list)) + row < many_at rows_in_list lists list
  in_list = omega (arith, number_below rows_in_part (parts_at lists list) part row in_part, rows_in_all lists list)

  row_number_below : row_number lists list part row < count_of_rows lists
  row_number_below = number_below rows_in_list lists list _ in_list

same_row_number : (lists : List Tables) (list part row other parts rows : ℕ) → row < rows_at lists list part → rows < rows_at lists other parts →
    row_number lists list part row ≡ row_number lists other parts rows → (list ≡ other) × (part ≡ parts) × (row ≡ rows)
same_row_number lists list part row other parts rows here there is =
    let first = same_number rows_in_list lists list other _ _ (in_list lists list part row here) (in_list lists other parts rows there) is in
    let second = same_number rows_in_part (parts_at lists list) part parts row rows (in_part lists list part row here)
    (subst (λ l. rows < many_at rows_in_part (parts_at lists l) parts) (sym first.0) (in_part lists other parts rows there))
    (first.1 ∙ ap (λ l. sum_by rows_in_part (take parts (parts_at lists l)) + rows) (sym first.0)) in
    (first.0, second.0, second.1)

-- a multiple of 64 is known by how many times 64 goes into it
due_place : (m n : ℕ) → m % 64 ≡ 0 → n % 64 ≡ 0 → m / 64 ≡ n / 64 → m ≡ n
due_place m n here there is = omega (arith, here, there, is, div-add-mod m 64, div-add-mod n 64)

place_below : (m n : ℕ) → m ≤ n → m / 64 < n / 64 + 1
place_below m n le = omega (arith, le, div-add-mod m 64, div-add-mod n 64, mod_below n 64 (omega arith))

same_by_parts : (x y : ℕ × ℕ × ℕ × ℕ) → x.0 ≡ y.0 → x.1 ≡ y.1 → x.2 ≡ y.2 → x.3 ≡ y.3 → is_same_end x y ≡ true
same_by_parts x y list part row place =
    and_from _ _ (and_from _ _ (and_from _ _ (eq-eqb _ _ list) (eq-eqb _ _ part)) (eq-eqb _ _ row)) (eq-eqb _ _ place)

-- numbers for the dead ends that can be known
module _ (lists : List Tables) (text : List ℕ) where
  -- the dead end is within the lists and the text
  abbrev Within : ℕ × ℕ × ℕ × ℕ → Type 0
  Within k = IsWithin lists text k.0 k.1 k.2 k.3

  -- the number of a row and a place
  abbrev number : ℕ × ℕ × ℕ × ℕ → ℕ
  number k = row_number lists k.0 k.1 k.2 * (length text / 64 + 1) + k.3 / 64

  -- how many such numbers there are
  abbrev limit : ℕ
  limit = count_of_rows lists * (length text / 64 + 1)

  below_limit : (k : ℕ × ℕ × ℕ × ℕ) → Within k → number k < limit
  below_limit k is =
      let w = length text / 64 + 1 in
      let lt = mul-add-lt (row_number lists k.0 k.1 k.2) w (k.3 / 64) (count_of_rows lists) (row_number_below lists k.0 k.1 k.2 is.below) (place_below k.3 (length text) is.inside) in
      omega (arith, lt)

  same_from_number : (x y : ℕ × ℕ × ℕ × ℕ) → Within x → Within y → number x ≡ number y → is_same_end x y ≡ true
  same_from_number x y here there is =
      let w = length text / 64 + 1 in
      let both = same_from_place (row_number lists x.0 x.1 x.2) (x.3 / 64) (row_number lists y.0 y.1 y.2) (y.3 / 64) w (place_below x.3 (length text) here.inside) (place_below y.3 (length text) there.inside) is in
      let rows = same_row_number lists x.0 x.1 x.2 y.0 y.1 y.2 here.below there.below both.0 in
      same_by_parts x y rows.0 rows.1 rows.2 (due_place x.3 y.3 here.due there.due both.1)

  apart : (x : ℕ × ℕ × ℕ × ℕ) (ks : List (ℕ × ℕ × ℕ × ℕ)) → Within x → AllByRecursion Within ks → AllByRecursion (λ y. is_same_end x y ≡ false) ks → AllByRecursion (λ m. nat_eq (number x) m ≡ false) (map number ks)
  apart x [] is are differ = tt
  apart x (k ∷ ks) is are differ =
      (ne_eqb _ _ (λ same. true≢false (sym (same_from_number x k is are.0 same) ∙ differ.0)), apart x ks is are.1 differ.1)

  distinct : (ks : List (ℕ × ℕ × ℕ × ℕ)) → AllByRecursion Within ks → IsDistinct is_same_end ks → IsDistinct nat_eq (map number ks)
  unfolding IsDistinct
  distinct [] are d = tt
  distinct (k ∷ ks) are d = (apart k ks are.0 are.1 d.0, distinct ks are.1 d.1)

  each_below : (ks : List (ℕ × ℕ × ℕ × ℕ)) → AllByRecursion Within ks → (q : ℕ) → list_any (nat_eq q) (map number ks) ≡ true → q < limit
  each_below [] are q has = absurd (true≢false (sym has))
  each_below (k ∷ ks) are q has = elim (cases_Bool (nat_eq q (number k))) [
    | inl same ↦ omega (arith, eqb-true _ _ same, below_limit k are.0)
    | inr differ ↦ each_below ks are.1 q (sym (ap (λ b. b || list_any (nat_eq q) (map number ks)) differ) ∙ has)
  ]

  few_keys : (ks : List (ℕ × ℕ × ℕ × ℕ)) → AllByRecursion Within ks → IsDistinct is_same_end ks → length ks ≤ limit
  few_keys ks are d = omega (arith, length-map ks number, length-le_from_distinct_below (map number ks) limit (distinct ks are d) (each_below ks are))

  found_later : (b : Bool) (v : ℕ) (o : Option ℕ) (more : ℕ) → o ≡ Some more → (n : ℕ) × (cond b (Some v) o ≡ Some n)
  found_later true v o more is = (v, refl)
  found_later false v o more is = (more, is)

  all_within : (es : List ((ℕ × ℕ × ℕ × ℕ) × ℕ)) → ((k : ℕ × ℕ × ℕ × ℕ) (more : ℕ) → lookup (is_same_end k) es ≡ Some more → Within k) → AllByRecursion Within (keys_of es)
  all_within [] are = tt
  all_within (e ∷ es) are = (
    are e.0 e.1 (cond-true _ _ _ (same_by_parts e.0 e.0 refl refl refl refl)),
    all_within es (λ k more there.
        let found = found_later (is_same_end k e.0) e.1 (lookup (is_same_end k) es) more there in
        are k found.0 found.1),
  )

  -- there is at most one for each row of a table and each 64 bytes
  pub few_known : {S : Type 0} (known : HashMap (ℕ × ℕ × ℕ × ℕ) ℕ S) → AreWithin lists text known → IsUnique is_same_end known → hash_map_len known ≤ limit
  few_known known are unique =
      let all = all_within known.entries (λ k more there. are k.0 k.1 k.2 k.3 more there) in
      omega (arith, length-keys_of known.entries, few_keys (keys_of known.entries) all unique)
