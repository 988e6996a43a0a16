-- The laws of what maps of names say.
use Rattle.std.proofs.Common.{◌≡◌, ℕ, ◌+◌, ◌<◌, true, false, cond, List, ◌∷◌, length, get_or, drop, Some, None, sym, refl, ap, ◌∙◌, arith}
use Rattle.std.specs.Prelude.{nat_lt, bytes_eq}
use Rattle.std.specs.Prelude.{find}
use Rattle.std.specs.List.{after_first, before_first, filter_map, position_or_len}
use Rattle.std.specs.Option.{option_map_or}
use Rattle.std.proofs.lemmas.Bool.Decides.{nat_tests}
use Rattle.std.proofs.lemmas.List.{at_drop_more}
use Rattle.lrlex_lsp.specs.Languages.{is_equals, pair_in, shown_as, shown_by}
use Rattle.lrlex_lsp.specs.declared.languages.Shown.TheVariants.{Guessed}

pair_found : (word name kind : List ℕ) → (position_or_len is_equals word < length word) × (name ≡ before_first is_equals word) × (kind ≡ after_first is_equals word) → pair_in word ≡ Some (name, kind)
pair_found word name kind found =
    let test : nat_lt (position_or_len is_equals word) (length word) ≡ true = grind (arith, nat_tests, found.0) in
    rw (test, found.1, found.2) refl

pair_lacking : (word : List ℕ) → position_or_len is_equals word ≡ length word → pair_in word ≡ None
pair_lacking word lacks =
    let test : nat_lt (position_or_len is_equals word) (length word) ≡ false = grind (arith, nat_tests, lacks) in
    rw test refl

-- the words behind n others begin with this one
words_at : (words : List (List ℕ)) (n : ℕ) (word : List ℕ) → (n < length words) × (word ≡ get_or words n word)
    → filter_map pair_in (drop n words) ≡ filter_map pair_in (word ∷ drop (n + 1) words)
words_at words n word here =
    at_drop_more (filter_map pair_in) words n word here.0 ∙ ap (λ w. filter_map pair_in (w ∷ drop (n + 1) words)) (sym here.1)

said_first : (pair : List ℕ × List ℕ) (pairs : List (List ℕ × List ℕ)) (name : List ℕ)
    → shown_by (pair ∷ pairs) name ≡ cond (bytes_eq pair.0 name) (shown_as pair.1) (shown_by pairs name)
said_first pair pairs name =
    elim (bytes_eq pair.0 name) as (λ same. option_map_or (λ (p : List ℕ × List ℕ). shown_as p.1) (cond same (Some pair) (find (λ (p : List ℕ × List ℕ). bytes_eq p.0 name) pairs)) Guessed ≡ cond same (shown_as pair.1) (shown_by pairs name)) [ true ↦ refl | false ↦ refl ]

-- a word that is a pair decides, if it has the name
pub said_at : (name : List ℕ) (words : List (List ℕ)) (n : ℕ) (word named kind : List ℕ) → (n < length words) × (word ≡ get_or words n word)
    → (position_or_len is_equals word < length word) × (named ≡ before_first is_equals word) × (kind ≡ after_first is_equals word)
    → shown_by (filter_map pair_in (drop n words)) name ≡ cond (bytes_eq named name) (shown_as kind) (shown_by (filter_map pair_in (drop (n + 1) words)) name)
said_at name words n word named kind here found =
    let pair : filter_map pair_in (word ∷ drop (n + 1) words) ≡ (named, kind) ∷ filter_map pair_in (drop (n + 1) words) = rw (pair_found word named kind found) refl in
    ap (λ pairs. shown_by pairs name) (words_at words n word here ∙ pair) ∙ said_first (named, kind) (filter_map pair_in (drop (n + 1) words)) name

-- another word says nothing
pub unsaid_at : (name : List ℕ) (words : List (List ℕ)) (n : ℕ) (word : List ℕ) → (n < length words) × (word ≡ get_or words n word)
    → position_or_len is_equals word ≡ length word
    → shown_by (filter_map pair_in (drop n words)) name ≡ shown_by (filter_map pair_in (drop (n + 1) words)) name
unsaid_at name words n word here lacks =
    let none : filter_map pair_in (word ∷ drop (n + 1) words) ≡ filter_map pair_in (drop (n + 1) words) = rw (pair_lacking word lacks) refl in
    ap (λ pairs. shown_by pairs name) (words_at words n word here ∙ none)
