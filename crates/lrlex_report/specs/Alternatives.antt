-- The alternatives of a pattern, which `|` parts. It takes the first that matches: one that begins with an earlier one never does.
use Rattle.std.specs.Prelude.{ℕ, Bool, false, not, ◌&&◌, ◌||◌, ◌==◌, nat_lt, if◌then◌else◌, Option, Some, None, List, [], ◌∷◌, length, slice_index, codes}
use Rattle.std.specs.Char.{is_ascii_digit}
use Rattle.std.specs.List.{list_any, onto_first}
use Rattle.std.specs.Str.{byte}
use Rattle.lrlex_parser.specs.Escape.{is_backslash, is_one_of}
use Rattle.lrlex_parser.specs.Text.{begins_with, is_empty}
use Rattle.lrlex_report.specs.PatternClasses.{at_beginning, after, after_pair, is_pair, from_first}
use Rattle.lrlex_report.specs.declared.warnings.pattern_classes.Context.{Context}

-- ---- the alternatives
-- a `|` that parts them stands here, outside classes of characters
abbrev pub is_bar : Context → List ℕ → Bool
is_bar x text = (x.classes == 0) && (slice_index text 0 == byte "|")

-- those from here on; a `|` in an escape parts none
abbrev pub alternatives_from : Context → List ℕ → List (List ℕ)
alternatives_from x [] = [] ∷ []
alternatives_from x (b ∷ []) = if is_bar x (b ∷ []) then [] ∷ [] ∷ [] else (b ∷ []) ∷ []
alternatives_from x (b ∷ c ∷ rest) =
    if is_bar x (b ∷ c ∷ rest) then [] ∷ alternatives_from at_beginning (c ∷ rest)
    else if is_pair x b c then onto_first b (onto_first c (alternatives_from (after_pair x b) rest))
    else onto_first b (alternatives_from (after x b) (c ∷ rest))

abbrev pub alternatives : (pattern : List ℕ) → List (List ℕ)
alternatives pattern = alternatives_from at_beginning pattern

-- those of what is left, where something is left
abbrev pub alternatives_left : Option (List ℕ) → List (List ℕ)
alternatives_left None = []
alternatives_left (Some rest) = alternatives rest

-- ---- patterns whose alternatives can be compared by their texts
-- Outside classes of characters a parenthesis, of a group, or an escape of a digit, as `\1`, which may take the digits behind it too.
abbrev pub is_obstacle : Context → List ℕ → Bool
is_obstacle x [] = false
is_obstacle x (b ∷ rest) =
    (x.classes == 0) && (is_one_of (codes "()") b || (is_backslash b && is_ascii_digit (slice_index rest 0)))

-- the pattern has none
abbrev pub is_plain : (pattern : List ℕ) → Bool
is_plain pattern = is_empty (from_first is_obstacle at_beginning pattern)

-- ---- lost alternatives
-- behind a character or a class: how often it comes, perhaps never
abbrev pub is_repeat : ℕ → Bool
is_repeat b = is_one_of (codes "*?{") b

-- an alternative begins with another, whose end isn't repeated or left out there: it matches only where that one does
abbrev pub extends : (part : List ℕ) → (other : List ℕ) → Bool
extends part other = begins_with part other && not (is_repeat (slice_index other (length part)))

-- one of them begins so with an earlier one
abbrev pub has_lost : List (List ℕ) → Bool
has_lost [] = false
has_lost (part ∷ later) = list_any (λ other. extends part other) later || has_lost later

-- so it is with those of a pattern of at most 4,096 bytes that can be compared
abbrev pub loses_part : (pattern : List ℕ) → Bool
loses_part pattern = not (nat_lt 4096 (length pattern)) && is_plain pattern && has_lost (alternatives pattern)
