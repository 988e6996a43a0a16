-- The names and the texts of lexemes.
use Rattle.std.proofs.Common.{◌≡◌, ◌∙◌, ap, ap₂, sym, refl, subst, arith, ℕ, ◌+◌, List, [], ◌∷◌, ◌++◌, All, Bool, IsCharBoundary, length, ◌<◌, map, slice_range, Option, Some, None, unwrap_or, length-append, append-nil}
use Rattle.std.specs.Borrow.{Bor}
use Rattle.std.specs.Option.{option_map}
use Rattle.std.specs.List.{filter_map, cons_option}
use Rattle.std.proofs.lemmas.List.{get_or_at, get_or-map, length-map, map_push}
use Rattle.std.proofs.lemmas.List.Elements.{filter_map-append}
use Rattle.lrlex.specs.Words.{Rule}
use Rattle.lrlex.specs.Tiling.{Lexeme}
use Rattle.lrlex.specs.Ids.{name_of}
use Rattle.lrlex_examples.specs.Lexing.{word_of}

-- the number that an id of type `u32` stands for
abbrev pub number : ℕ → ℕ
number n = n

-- ---- names

-- the text behind a reference, or behind another
pub text_or : (o : Option (Bor (List ℕ))) (d : Bor (List ℕ)) → (unwrap_or o d).now ≡ unwrap_or (option_map (λ (s : Bor (List ℕ)). s.now) o) d.now
text_or None d = refl
text_or (Some s) d = refl

pub word_is : (rules own : List Rule) (text hay name matched : List ℕ) (id start len : ℕ) (faulty : Bool) (number from to : ℕ) → name ≡ unwrap_or (name_of own number) [] → own ≡ rules → number ≡ id
    → matched ≡ slice_range hay from to → hay ≡ text → from ≡ start → to ≡ start + len → word_of rules text (Lexeme id start len faulty) ≡ Some (name, matched)
word_is rules own text hay name matched id start len faulty number from to named same_rules same_id cut same_text first last =
    let a : unwrap_or (name_of rules id) [] ≡ name =
    sym (named ∙ ap (λ (rs : List Rule). unwrap_or (name_of rs number) []) same_rules ∙ ap (λ (n : ℕ). unwrap_or (name_of rules n) []) same_id) in
    let b : slice_range text start (start + len) ≡ matched =
    sym (cut ∙ ap (λ (xs : List ℕ). slice_range xs from to) same_text ∙ ap (λ (i : ℕ). slice_range text i to) first ∙ ap (λ (j : ℕ). slice_range text start j) last) in
    ap₂ (λ (x y : List ℕ). Some (x, y)) a b

-- a lexeme's span fits the text that it fits
pub span_fits : (text hay : List ℕ) (start len from to : ℕ) → hay ≡ text → from ≡ start → to ≡ start + len → IsCharBoundary text start × IsCharBoundary text (start + len) → IsCharBoundary hay from × IsCharBoundary hay to
span_fits text hay start len from to same first last h =
    (subst (λ xs. IsCharBoundary xs from) (sym same) (subst (IsCharBoundary text) (sym first) h.0), subst (λ xs. IsCharBoundary xs to) (sym same) (subst (IsCharBoundary text) (sym last) h.1))

-- ---- one more

-- what holds of each of a list holds of the one behind a front of it
pub at_front : {X Y : Type 0} (P : Y → Type 0) (f : X → Y) (all front rest : List X) (x : X) → all ≡ front ++ x ∷ rest → All P (map f all) → P (f x)
at_front P f all front rest x e h =
    let whole = subst (λ xs. All P (map f xs)) e h in
    let within : length front < length (front ++ x ∷ rest) = omega (arith, length-append front (x ∷ rest)) in
    let there = get_or-map f (front ++ x ∷ rest) (length front) x (f x) within ∙ ap f (get_or_at front x rest x (length front) refl) in
    subst P there (whole (length front) (f x) (omega (arith, within, length-map (front ++ x ∷ rest) f)))

module _ {X Y Z W : Type 0} (show : W → Z) (f : Y → Option Z) (g : X → Y) (ws : List W) (xs : List X) (x : X) (so_far : map show ws ≡ filter_map f (map g xs)) where
  front_of : filter_map f (map g (xs ++ x ∷ [])) ≡ map show ws ++ filter_map f (g x ∷ [])
  front_of = ap (filter_map f) (map_push g xs x) ∙ filter_map-append f (map g xs) (g x ∷ []) ∙ ap (λ (zs : List Z). zs ++ filter_map f (g x ∷ [])) (sym so_far)

  pub word_more : (w : W) → f (g x) ≡ Some (show w) → map show (ws ++ w ∷ []) ≡ filter_map f (map g (xs ++ x ∷ []))
  word_more w e = map_push show ws w ∙ sym (front_of ∙ ap (λ (o : Option Z). map show ws ++ cons_option o []) e)

  pub word_none : f (g x) ≡ None → map show ws ≡ filter_map f (map g (xs ++ x ∷ []))
  word_none e = sym (front_of ∙ ap (λ (o : Option Z). map show ws ++ cons_option o []) e ∙ append-nil (map show ws))
