-- `<..>`, `+` and `-` at the front of a text.
use Rattle.std.proofs.Common.{◌≡◌, ℕ, suc, ◌+◌, ◌<◌, ◌≤◌, Bool, true, false, eqb, List, [], ◌∷◌, length, drop, get_or, refl, sym, ap, ◌∙◌, arith}
use Rattle.std.specs.Prelude.{◌≢◌}
use Rattle.std.specs.List.{list_any, position_or_len, before_first, after_first}
use Rattle.std.specs.Str.{IsUtf8, IsCharBoundary}
use Rattle.std.specs.Cmp.{first_so, second_so}
use Rattle.std.proofs.lemmas.List.{length-drop}
use Rattle.std.proofs.lemmas.Bool.{ltb-true, eqb-true}
use Rattle.std.proofs.lemmas.Str.{IsCharBoundary-after_ascii}
use Rattle.lrlex_parser.specs.Text.{begins_with}
use Rattle.lrlex_parser.specs.RuleLine.{is_greater, in_angles, after_angles, operation_of, target_name, is_quoted_by}
use Rattle.lrlex_rules.specs.declared.states.StartStateOperation.TheVariants.{ReplaceStack}
use Rattle.lrlex_parser.proofs.EscapeLemmas.{not_eqb}

pub begins_no : (c : ℕ) (text : List ℕ) → ((rest : List ℕ) → text ≢ c ∷ rest) → begins_with (c ∷ []) text ≡ false
begins_no c [] h = refl
begins_no c (b ∷ bs) h = rw (not_eqb c b (λ e. h bs (ap (λ (x : ℕ). x ∷ bs) (sym e)))) refl

pub begins_angle : (text rest : List ℕ) → text ≡ 60 ∷ rest → begins_with (60 ∷ []) text ≡ true
begins_angle text rest e = ap (begins_with (60 ∷ [])) e

any_case : (p : ℕ → Bool) (x : ℕ) (xs : List ℕ) (b : Bool) → p x ≡ b → (position_or_len p xs < length xs → list_any p xs ≡ true) → position_or_len p (x ∷ xs) < length (x ∷ xs) → list_any p (x ∷ xs) ≡ true
any_case p x xs true e k h = rw e refl
any_case p x xs false e k h = let more = rw e at h in rw e (k (omega (arith, more)))

any_before : (p : ℕ → Bool) (xs : List ℕ) → position_or_len p xs < length xs → list_any p xs ≡ true
any_before p [] h = absurd (omega arith)
any_before p (x ∷ xs) h = any_case p x xs (p x) refl (any_before p xs) h

none_case : (p : ℕ → Bool) (x : ℕ) (xs : List ℕ) (b : Bool) → p x ≡ b → (position_or_len p xs ≡ length xs → list_any p xs ≡ false) → position_or_len p (x ∷ xs) ≡ length (x ∷ xs) → list_any p (x ∷ xs) ≡ false
none_case p x xs true e k h = let bad = rw e at h in absurd (omega (arith, bad))
none_case p x xs false e k h = let more = rw e at h in rw e (k (omega (arith, more)))

pub none_before : (p : ℕ → Bool) (xs : List ℕ) → position_or_len p xs ≡ length xs → list_any p xs ≡ false
none_before p [] h = refl
none_before p (x ∷ xs) h = none_case p x xs (p x) refl (none_before p xs) h

pub closed_has : (text rest : List ℕ) → text ≡ 60 ∷ rest → position_or_len (λ b. eqb b 62) rest < length rest → list_any is_greater text ≡ true
closed_has text rest e h = ap (list_any is_greater) e ∙ any_before is_greater rest h

pub open_lacks : (text rest : List ℕ) → text ≡ 60 ∷ rest → position_or_len (λ b. eqb b 62) rest ≡ length rest → list_any is_greater text ≡ false
open_lacks text rest e h = ap (list_any is_greater) e ∙ none_before is_greater rest h

pub closed_inside : (text rest inside : List ℕ) → text ≡ 60 ∷ rest → inside ≡ before_first (λ b. eqb b 62) rest → inside ≡ in_angles text
closed_inside text rest inside e h = h ∙ ap in_angles (sym e)

pub closed_after : (text rest after : List ℕ) → text ≡ 60 ∷ rest → after ≡ after_first (λ b. eqb b 62) rest → after ≡ after_angles text
closed_after text rest after e h =
    let k = position_or_len is_greater rest in
    let same : suc (k + 1) ≡ (1 + k) + 1 = omega arith in
    h ∙ ap (λ (n : ℕ). drop n (60 ∷ rest)) same ∙ ap after_angles (sym e)

pub no_operation : (text : List ℕ) → ((rest : List ℕ) → text ≢ 43 ∷ rest) → ((rest : List ℕ) → text ≢ 45 ∷ rest) → (ReplaceStack ≡ operation_of text) × (text ≡ target_name text)
no_operation text plus minus = (sym (rw (begins_no 43 text plus, begins_no 45 text minus) refl), sym (rw (begins_no 43 text plus, begins_no 45 text minus) refl))

pub quoted_start : (part : List ℕ) (quote : ℕ) → quote < 128 → IsUtf8 part → is_quoted_by quote part ≡ true → IsCharBoundary part 1
quoted_start part quote low u h =
    let more : 2 < length part = ltb-true 2 (length part) (first_so _ _ h) in
    let is : get_or part 0 0 ≡ quote = eqb-true (get_or part 0 0) quote (first_so _ _ (second_so _ _ h)) in
    IsCharBoundary-after_ascii part 0 u (omega arith) (omega arith)

pub after_within : (text part : List ℕ) → part ≡ after_angles text → length part ≤ length text
after_within text part e = omega (arith, ap (length {A = ℕ}) e, length-drop (position_or_len is_greater text + 1) text)
