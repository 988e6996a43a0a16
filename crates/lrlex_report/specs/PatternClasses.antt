-- The classes of characters of a pattern, in brackets, as `regex` reads them: where a byte stands in them. A class with a name, as
-- `[:alpha:]`, is read as a class of its bytes, since it ends at the same `]`.
use Rattle.std.specs.Prelude.{ℕ, suc, ◌-◌, Bool, false, ◌&&◌, ◌||◌, ◌==◌, if◌then◌else◌, List, [], ◌∷◌}
use Rattle.std.specs.Str.{byte}
use Rattle.lrlex_parser.specs.Escape.{is_backslash}
use Rattle.lrlex_report.specs.declared.warnings.pattern_classes.Part.{Part}
use Rattle.lrlex_report.specs.declared.warnings.pattern_classes.Part.TheVariants.{Beginning, Outside, Bracket, Caret, Hyphens, Inside, Member, Range, Operated}
use Rattle.lrlex_report.specs.declared.warnings.pattern_classes.Context.{Context}

-- at the beginning of a pattern
abbrev pub at_beginning : Context
at_beginning = record { classes = 0; part = Beginning }

-- ---- behind a byte that is no part of an escape or of an operation
-- in the same classes
abbrev pub in_part : Context → Part → Context
in_part x part = record { classes = x.classes; part = part }

-- behind the `[` that begins a class
abbrev pub opened : Context → Context
opened x = record { classes = suc x.classes; part = Bracket }

-- behind the `]` that ends a class
abbrev pub part_around : (classes : ℕ) → Part
part_around classes = if classes == 0 then Outside else Inside

abbrev pub closed : Context → Context
closed x = record { classes = x.classes - 1; part = part_around (x.classes - 1) }

-- in no class, where a group begins behind this byte, an alternative, or the rest of a group that begins with flags
abbrev pub begins_part : ℕ → Bool
begins_part b = (b == byte "(") || ((b == byte "|") || (b == byte ":"))

abbrev pub after_outside : Context → ℕ → Context
after_outside x b =
    if b == byte "[" then opened x else if begins_part b then in_part x Beginning else in_part x Outside

-- where a member of a class begins, or behind one that can begin no range
abbrev pub after_inside : Context → ℕ → Context
after_inside x b =
    if b == byte "[" then opened x
    else if b == byte "]" then closed x
    else if b == byte "-" then in_part x Inside
    else in_part x Member

-- at the front of a class, where `]` and `-` are characters
abbrev pub after_front : Context → ℕ → Context
after_front x b =
    if b == byte "]" then in_part x Inside else if b == byte "-" then in_part x Hyphens else after_inside x b

abbrev pub after_in : Part → Context → ℕ → Context
after_in Beginning x b = after_outside x b
after_in Outside x b = after_outside x b
after_in Bracket x b = if b == byte "^" then in_part x Caret else after_front x b
after_in Caret x b = after_front x b
after_in Hyphens x b = if b == byte "-" then in_part x Hyphens else after_inside x b
after_in Inside x b = after_inside x b
after_in Member x b = if b == byte "-" then in_part x Range else after_inside x b
after_in Range x b = if b == byte "]" then closed x else in_part x Inside
after_in Operated x b = after_inside x b

abbrev pub after : Context → ℕ → Context
after x b = after_in x.part x b

-- ---- behind two bytes that belong together
-- `&&` and `~~` are operations on sets in a class, and `--` is one further in it; what ends a range is a character
abbrev pub is_front_operation : (b c : ℕ) → Bool
is_front_operation b c = (b == c) && ((b == byte "&") || (b == byte "~"))

abbrev pub is_inner_operation : (b c : ℕ) → Bool
is_inner_operation b c = is_front_operation b c || ((b == byte "-") && (c == byte "-"))

abbrev pub is_operation : Part → (b c : ℕ) → Bool
is_operation Beginning b c = false
is_operation Outside b c = false
is_operation Bracket b c = is_front_operation b c
is_operation Caret b c = is_front_operation b c
is_operation Hyphens b c = is_front_operation b c
is_operation Inside b c = is_inner_operation b c
is_operation Member b c = is_inner_operation b c
is_operation Range b c = false
is_operation Operated b c = is_inner_operation b c

-- an escape is a character
abbrev pub behind_escape : Part → Part
behind_escape Beginning = Outside
behind_escape Outside = Outside
behind_escape Bracket = Member
behind_escape Caret = Member
behind_escape Hyphens = Member
behind_escape Inside = Member
behind_escape Member = Member
behind_escape Range = Inside
behind_escape Operated = Member

-- these two bytes are an escape, or an operation
abbrev pub is_pair : Context → (b c : ℕ) → Bool
is_pair x b c = is_backslash b || is_operation x.part b c

abbrev pub after_pair : Context → ℕ → Context
after_pair x b = in_part x (if is_backslash b then behind_escape x.part else Operated)

-- ---- the pattern from the first place on where this test holds of the context and of what follows, or nothing
abbrev pub from_first : (Context → List ℕ → Bool) → Context → List ℕ → List ℕ
from_first test x [] = []
from_first test x (b ∷ []) = if test x (b ∷ []) then b ∷ [] else []
from_first test x (b ∷ c ∷ rest) =
    if test x (b ∷ c ∷ rest) then b ∷ c ∷ rest
    else if is_pair x b c then from_first test (after_pair x b) rest
    else from_first test (after x b) (c ∷ rest)
