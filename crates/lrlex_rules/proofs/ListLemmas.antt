-- Lists of active rules, each kept once.
use Rattle.std.proofs.Common.{◌≡◌, ◌≢◌, ℕ, ◌<◌, ◌≤◌, List, [], ◌∷◌, ◌++◌, map, set, length, get_or, option_map, Vec, All, refl, ap, ap₂, ◌∙◌, arith}
use Rattle.std.proofs.lemmas.List.{length-map, map-append, map-set, get_or_append_left, get_or_default, get_or_past, get_or_push, get_or-set_same, get_or-set_other}
use Rattle.std.proofs.lemmas.List.Elements.{All-head, All-tail}
use Rattle.std.proofs.lemmas.Option.{slice_get-map, slice_get_read, get_or_from_slice_get}
use Rattle.std.specs.declared.alloc.Global.{Global}
use Rattle.lrlex_rules.specs.RuleLists.{list_in}

-- the lists that were there stay where they are
pub list_in_front : (lists : List (Vec ℕ Global)) (places : Vec ℕ Global) (i : ℕ) → i < length lists →
    list_in (map (λ v. v.items) (lists ++ places ∷ [])) i ≡ list_in (map (λ v. v.items) lists) i
list_in_front lists places i lt =
    ap (λ xs. get_or xs i []) (map-append (λ (v : Vec ℕ Global). v.items) lists (places ∷ []))
    ∙ get_or_append_left (map (λ v. v.items) lists) (places.items ∷ []) [] i (omega (arith, length-map lists (λ (v : Vec ℕ Global). v.items)))

-- and one more stands behind them
pub list_in_last : (lists : List (Vec ℕ Global)) (places : Vec ℕ Global) →
    list_in (map (λ v. v.items) (lists ++ places ∷ [])) (length lists) ≡ places.items
list_in_last lists places =
    ap (λ xs. get_or xs (length lists) []) (map-append (λ (v : Vec ℕ Global). v.items) lists (places ∷ []))
    ∙ get_or_push (map (λ v. v.items) lists) places.items [] (length lists) (length-map lists (λ (v : Vec ℕ Global). v.items))

-- the list that an index reads
pub list_in_at : (lists : List (Vec ℕ Global)) (i : ℕ) (d : Vec ℕ Global) → i < length lists → list_in (map (λ v. v.items) lists) i ≡ (get_or lists i d).items
list_in_at lists i d lt =
    let v = get_or lists i d in
    get_or_from_slice_get (map (λ v. v.items) lists) i v.items []
    (slice_get-map (λ (v : Vec ℕ Global). v.items) lists i
    ∙ ap (option_map (λ v. v.items)) (slice_get_read lists (length lists) i v refl lt (get_or_default lists i d v lt)))

-- past the last there is nothing
pub list_in_past : (lists : List (Vec ℕ Global)) (i : ℕ) → length lists ≤ i → list_in (map (λ v. v.items) lists) i ≡ []
list_in_past lists i le = get_or_past (map (λ v. v.items) lists) i [] (omega (arith, length-map lists (λ (v : Vec ℕ Global). v.items)))

-- the lists after a write to one
pub list_in_same : (lists : List (Vec ℕ Global)) (i : ℕ) (v : Vec ℕ Global) → i < length lists → list_in (map (λ v. v.items) (set lists i v)) i ≡ v.items
list_in_same lists i v lt =
    ap (λ xs. get_or xs i []) (map-set (λ (v : Vec ℕ Global). v.items) lists i v)
    ∙ get_or-set_same (map (λ v. v.items) lists) i v.items [] (omega (arith, length-map lists (λ (v : Vec ℕ Global). v.items)))

pub list_in_other : (lists : List (Vec ℕ Global)) (i j : ℕ) (v : Vec ℕ Global) → j ≢ i → list_in (map (λ v. v.items) (set lists i v)) j ≡ list_in (map (λ v. v.items) lists) j
list_in_other lists i j v ne =
    ap (λ xs. get_or xs j []) (map-set (λ (v : Vec ℕ Global). v.items) lists i v)
    ∙ get_or-set_other (map (λ v. v.items) lists) i j v.items [] ne

-- what the places name stays the same where the lists that they name do
pub listed_again : (f g : ℕ → List ℕ) (n : ℕ) (at : List ℕ) → All (λ j. j < n) at → ((j : ℕ) → j < n → g j ≡ f j) → map g at ≡ map f at
listed_again f g n [] below same = refl
listed_again f g n (j ∷ at) below same = ap₂ ◌∷◌ (same j (All-head (λ i. i < n) j at below)) (listed_again f g n at (All-tail (λ i. i < n) j at below) same)
