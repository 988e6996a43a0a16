-- The names of a start-state list.
use Rattle.std.proofs.Common.{◌≡◌, ℕ, ◌<◌, Bool, true, false, eqb, List, [], ◌∷◌, ◌++◌, length, map, Option, Some, None, refl, sym, ap, ◌∙◌, arith}
use Rattle.std.specs.Option.{option_map, option_copied, is_some}
use Rattle.std.specs.Borrow.{Bor}
use Rattle.std.specs.List.{position_or_len, before_first, after_first, slice_split}
use Rattle.std.proofs.lemmas.List.{append_assoc}
use Rattle.std.proofs.lemmas.List.Splits.{slice_split_first, length-slice_split}
use Rattle.lrlex_parser.specs.Text.{trim_text, same_text}
use Rattle.std.specs.Prelude.{codes, ◌==◌, not}
use Rattle.lrlex_rules.specs.Definition.{StartState}
use Rattle.lrlex_parser.specs.RuleLine.{state_id, state_ids, cons_both, listed_names, names_left, listed_ids}

lone : (p : ℕ → Bool) (x : ℕ) (xs : List ℕ) (b : Bool) → p x ≡ b → (position_or_len p xs ≡ length xs → slice_split p xs ≡ xs ∷ []) → position_or_len p (x ∷ xs) ≡ length (x ∷ xs) → slice_split p (x ∷ xs) ≡ (x ∷ xs) ∷ []
lone p x xs true e k h = let bad = rw e at h in absurd (omega (arith, bad))
lone p x xs false e k h = let more = rw e at h in rw (e, k (omega (arith, more))) refl

split_lone : (p : ℕ → Bool) (xs : List ℕ) → position_or_len p xs ≡ length xs → slice_split p xs ≡ xs ∷ []
split_lone p [] h = refl
split_lone p (x ∷ xs) h = lone p x xs (p x) refl (split_lone p xs) h

pub names_first : (names name rest : List ℕ) → position_or_len (λ b. eqb b 44) names < length names → name ≡ before_first (λ b. eqb b 44) names → rest ≡ after_first (λ b. eqb b 44) names → listed_names names ≡ name ∷ names_left (Some rest)
names_first names name rest lt front back = slice_split_first (λ b. eqb b 44) names 0 lt ∙ ap (λ (x : List ℕ). x ∷ slice_split (λ b. eqb b 44) (after_first (λ b. eqb b 44) names)) (sym front) ∙ ap (λ (x : List ℕ). name ∷ slice_split (λ b. eqb b 44) x) (sym back)

pub names_lone : (names : List ℕ) → position_or_len (λ b. eqb b 44) names ≡ length names → listed_names names ≡ names ∷ names_left None
names_lone names h = split_lone (λ b. eqb b 44) names h

-- one name more
onto : (ids : List ℕ) (id : ℕ) (more : Option (List ℕ)) → option_map (λ (ys : List ℕ). (ids ++ id ∷ []) ++ ys) more ≡ option_map (λ (ys : List ℕ). ids ++ ys) (cons_both (Some id) more)
onto ids id None = refl
onto ids id (Some ys) = ap Some (append_assoc ids (id ∷ []) ys)

pub id_found : (states : List StartState) (name : List ℕ) (left more : List (List ℕ)) (ids : List ℕ) (id : ℕ) (all : Option (List ℕ)) → left ≡ name ∷ more → Some id ≡ state_id states (trim_text name)
    → option_map (λ (ys : List ℕ). ids ++ ys) (state_ids states left) ≡ all → option_map (λ (ys : List ℕ). (ids ++ id ∷ []) ++ ys) (state_ids states more) ≡ all
id_found states name left more ids id all e h so_far =
    onto ids id (state_ids states more) ∙ ap (λ (o : Option ℕ). option_map (λ (ys : List ℕ). ids ++ ys) (cons_both o (state_ids states more))) h
    ∙ ap (λ (ns : List (List ℕ)). option_map (λ (ys : List ℕ). ids ++ ys) (state_ids states ns)) (sym e) ∙ so_far

pub id_missing : (states : List StartState) (name : List ℕ) (left more : List (List ℕ)) (ids : List ℕ) (all : Option (List ℕ)) → left ≡ name ∷ more → None ≡ state_id states (trim_text name)
    → option_map (λ (ys : List ℕ). ids ++ ys) (state_ids states left) ≡ all → None ≡ all
id_missing states name left more ids all e h so_far =
    ap (λ (o : Option ℕ). option_map (λ (ys : List ℕ). ids ++ ys) (cons_both o (state_ids states more))) h
    ∙ ap (λ (ns : List (List ℕ)). option_map (λ (ys : List ℕ). ids ++ ys) (state_ids states ns)) (sym e) ∙ so_far

-- ---- `*` alone
listed_more : (states : List StartState) (name : List ℕ) (ns : List (List ℕ)) → 0 < length ns → state_ids states (name ∷ ns) ≡ listed_ids states (name ∷ ns)
listed_more states name [] h = absurd (omega arith)
listed_more states name (n ∷ ns) h = refl

some_left : (rest : List ℕ) → 0 < length (listed_names rest)
some_left rest = omega (arith, length-slice_split (λ c. c == 44) rest)

pub listed_several : (states : List StartState) (names name rest : List ℕ) → listed_names names ≡ name ∷ names_left (Some rest) → state_ids states (listed_names names) ≡ listed_ids states (listed_names names)
listed_several states names name rest e = ap (state_ids states) e ∙ listed_more states name (listed_names rest) (some_left rest) ∙ ap (listed_ids states) (sym e)

pub listed_one : (states : List StartState) (names name : List ℕ) → listed_names names ≡ name ∷ names_left None → same_text (trim_text name) (codes "*") ≡ false → state_ids states (listed_names names) ≡ listed_ids states (listed_names names)
listed_one states names name e h =
    let one : state_ids states (name ∷ []) ≡ listed_ids states (name ∷ []) = sym (rw h refl) in
    ap (state_ids states) e ∙ one ∙ ap (listed_ids states) (sym e)

pub listed_all : (states : List StartState) (names name : List ℕ) → listed_names names ≡ name ∷ names_left None → same_text (trim_text name) (codes "*") ≡ true → Some (map (λ (s : StartState). s.id) states) ≡ listed_ids states (listed_names names)
listed_all states names name e h =
    let all : Some (map (λ (s : StartState). s.id) states) ≡ listed_ids states (name ∷ []) = sym (rw h refl) in
    all ∙ ap (listed_ids states) (sym e)

-- the same by what was read first
pub listed_by : (states : List StartState) (names name : List ℕ) (r : Option (Bor (List ℕ))) → listed_names names ≡ name ∷ names_left (option_copied r) → is_some r ≡ true → state_ids states (listed_names names) ≡ listed_ids states (listed_names names)
listed_by states names name None e h = cc
listed_by states names name (Some x) e h = listed_several states names name x.now e

pub listed_lone : (states : List StartState) (names name : List ℕ) (r : Option (Bor (List ℕ))) → listed_names names ≡ name ∷ names_left (option_copied r) → is_some r ≡ false → same_text (trim_text name) (codes "*") ≡ false → state_ids states (listed_names names) ≡ listed_ids states (listed_names names)
listed_lone states names name None e h k = listed_one states names name e k
listed_lone states names name (Some x) e h k = cc

pub not_true : (b : Bool) → not b ≡ true → b ≡ false
not_true true h = cc
not_true false h = refl
