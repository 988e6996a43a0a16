-- The text of a token module.
use Rattle.std.proofs.Common.{◌≡◌, ◌⊎◌, inl, inr, cond, not, Some, None, subst, append_assoc, ℕ, zero, suc, ◌+◌, ◌<◌, Bool, true, false, ◌&&◌, ◌||◌, ◌==◌, List, [], ◌∷◌, ◌++◌, length, map, get_or, take, refl, sym, ◌∙◌, ap, arith}
use lib.Utf8.{encode, encodes}
use Rattle.std.specs.Option.{option_or}
use Rattle.std.specs.List.{Contains, IsDistinct, list_all, list_any, flat_map, join_by}
use Rattle.std.specs.Str.{IsUtf8, bytes_eq, chars}
use Rattle.std.specs.Cmp.{IsEquivalence}
use Rattle.std.proofs.lemmas.Cmp.{nat_list_eq_equiv}
use Rattle.std.proofs.lemmas.Map.Keys.{IsDistinct-push}
use Rattle.std.proofs.lemmas.List.{map_more, map-append, append-nil, get_or-map, length-map, length-append}
use Rattle.std.proofs.Math.Seq.{get_or-append_seam}
use Rattle.std.specs.List.Sorted.{IsSortedBy}
use Rattle.std.proofs.lemmas.Grind.{flat_map-append}
use Rattle.std.proofs.lemmas.Str.{chars-nil, encodes-chars, chars_past_char}
use Rattle.unicode_ident.specs.Ident.{is_xid_start, is_xid_continue}
use Rattle.lrlex_tokens.specs.TokenModule.{Token, BadTokenName, SameConstant, constant_of, first_fault, is_identifier, is_identifier_chars}

-- one more element's text
pub flat_map_more : {X Y : Type 0} (f : Y → List ℕ) (v : X → Y) (xs : List X) (i : ℕ) (x : X) → i < length xs → x ≡ get_or xs i x
    → flat_map f (map v (take (i + 1) xs)) ≡ flat_map f (map v (take i xs)) ++ f (v x)
flat_map_more f v xs i x h e =
    ap (flat_map f) (map_more v xs i x h) ∙ flat_map-append f (map v (take i xs)) (v (get_or xs i x) ∷ [])
    ∙ ap (λ l. flat_map f (map v (take i xs)) ++ l) (append-nil (f (v (get_or xs i x)))) ∙ ap (λ y. flat_map f (map v (take i xs)) ++ f (v y)) (sym e)

-- the first piece, and one more piece behind those before it
pub join_by_first : {X Y : Type 0} (f : Y → List ℕ) (between : List ℕ) (v : X → Y) (xs : List X) (x : X) → 0 < length xs → x ≡ get_or xs 0 x
    → join_by f between (map v (take 1 xs)) ≡ f (v x)
join_by_first f between v [] x h e = absurd (omega arith)
join_by_first f between v (y ∷ ys) x h e = append-nil (f (v y)) ∙ ap (λ z. f (v z)) (sym e)

pub join_by_more : {X Y : Type 0} (f : Y → List ℕ) (between : List ℕ) (v : X → Y) (xs : List X) (i : ℕ) (x : X) → 0 < i → i < length xs → x ≡ get_or xs i x
    → join_by f between (map v (take (i + 1) xs)) ≡ join_by f between (map v (take i xs)) ++ (between ++ f (v x))
join_by_more f between v xs zero x l h e = absurd (omega arith)
join_by_more f between v [] (suc i) x l h e = absurd (omega arith)
join_by_more {Y = Y} f between v (y ∷ ys) (suc i) x l h e =
    let piece : Y → List ℕ = λ z. between ++ f z in
    let next : suc i + 1 ≡ suc (i + 1) = omega arith in
    ap (λ n. join_by f between (map v (take n (y ∷ ys)))) next
    ∙ ap (λ r. f (v y) ++ r) (flat_map_more piece v ys i x (omega arith) e)
    ∙ sym (append_assoc (f (v y)) (flat_map piece (map v (take i ys))) (piece (v x)))

-- an identifier of more than one character
more_chars : (c : ℕ) (cs rest : List ℕ) → chars rest ≡ cs → IsUtf8 rest → 0 < length rest
    → is_identifier_chars (c ∷ cs) ≡ ((is_xid_start c || (c == 95)) && list_all is_xid_continue cs)
more_chars c [] rest e u h =
    let none : rest ≡ [] = sym (encodes-chars rest u) ∙ ap encodes e in
    absurd (omega (arith, ap length none))
more_chars c (d ∷ cs) rest e u h = refl

pub identifier_more : (c : ℕ) (rest : List ℕ) → IsUtf8 rest → 0 < length rest
    → is_identifier_chars (c ∷ chars rest) ≡ ((is_xid_start c || (c == 95)) && list_all is_xid_continue (chars rest))
identifier_more c rest u h = more_chars c (chars rest) rest refl u h

-- a name that begins with the character c
pub identifier_alone : (name rest : List ℕ) (c : ℕ) → IsUtf8 name → name ≡ encode c ++ rest → length rest ≡ 0 → is_identifier name ≡ is_xid_start c
identifier_alone name [] c u e h = ap is_identifier_chars (chars_past_char name [] c u e ∙ ap (λ l. c ∷ l) chars-nil)
identifier_alone name (x ∷ rest) c u e h = absurd (omega arith)

pub identifier_of : (name rest : List ℕ) (c : ℕ) → IsUtf8 name → name ≡ encode c ++ rest → IsUtf8 rest → 0 < length rest
    → is_identifier name ≡ ((is_xid_start c || (c == 95)) && list_all is_xid_continue (chars rest))
identifier_of name rest c u e v h = ap is_identifier_chars (chars_past_char name rest c u e) ∙ identifier_more c rest v h

bool_cases : (b : Bool) → (b ≡ true) ⊎ (b ≡ false)
bool_cases true = inl refl
bool_cases false = inr refl

bytes_equiv : IsEquivalence bytes_eq
bytes_equiv = nat_list_eq_equiv

-- the constants of tokens without a fault are distinct
pub constants_distinct : (earlier tokens : List Token) → first_fault earlier tokens ≡ None → IsDistinct bytes_eq (map constant_of earlier)
    → IsDistinct bytes_eq (map constant_of (earlier ++ tokens))
constants_distinct earlier [] e h = subst (λ l. IsDistinct bytes_eq (map constant_of l)) (sym (append-nil earlier)) h
constants_distinct earlier (token ∷ tokens) e h =
    let c = constant_of token in
    let had = map constant_of earlier in
    let same = λ (b : Bool). cond b (Some (SameConstant token.name)) None in
    let next = first_fault (earlier ++ token ∷ []) tokens in
    let told = λ (bad again : Bool). option_or (cond bad (Some (BadTokenName token.name)) (same again)) next in
    let bad = not (list_all is_xid_continue (chars token.shown)) in
    let again = list_any (bytes_eq c) had in
    elim (bool_cases bad) [
      | inl y ↦ let wrong : Some (BadTokenName token.name) ≡ None = sym (ap (λ b. told b again) y) ∙ e in cc
      | inr n ↦ elim (bool_cases again) [
        | inl y ↦ let wrong : Some (SameConstant token.name) ≡ None = sym (ap (λ b. told b again) n ∙ ap (told false) y) ∙ e in cc
        | inr m ↦
            let rest : next ≡ None = sym (ap (λ b. told b again) n ∙ ap (told false) m) ∙ e in
            let more : IsDistinct bytes_eq (map constant_of (earlier ++ token ∷ [])) =
            subst (IsDistinct bytes_eq) (sym (map-append constant_of earlier (token ∷ []))) (IsDistinct-push bytes_equiv had c h m) in
            subst (λ l. IsDistinct bytes_eq (map constant_of l)) (append_assoc earlier (token ∷ []) tokens) (constants_distinct (earlier ++ token ∷ []) tokens rest more)
      ]
    ]

-- a list of views is sorted where the list is, by what is viewed
pub sorted_map : {X Y : Type 0} (v : X → Y) (lt : Y → Y → Bool) (xs : List X) → IsSortedBy (λ a b. lt (v a) (v b)) xs → IsSortedBy lt (map v xs)
sorted_map v lt [] h = λ k d z l. absurd (omega arith)
sorted_map v lt (x ∷ xs) h = λ k d z l.
    let all = x ∷ xs in
    let long : length (map v all) ≡ length all = length-map all v in
    let next : k + 1 < length all = omega arith in
    let one = get_or-map v all (k + 1) x d next in
    let two = get_or-map v all k x d (omega arith) in
    ap (λ y. lt y (get_or (map v all) k d)) one ∙ ap (lt (v (get_or all (k + 1) x))) two ∙ h k x z next

-- an element's view stands in the list of views
pub stands_in_view : {X Y : Type 0} (v : X → Y) (all before : List X) (x : X) (after : List X) → all ≡ before ++ x ∷ after → Contains (map v all) (v x)
stands_in_view v all before x after e =
    let split : map v all ≡ map v before ++ v x ∷ map v after = ap (map v) e ∙ map-append v before (x ∷ after) in
    subst (λ l. Contains l (v x)) (sym split) (length (map v before), omega (arith, length-append (map v before) (v x ∷ map v after)), get_or-append_seam (map v before) (v x) (map v after) (v x))
