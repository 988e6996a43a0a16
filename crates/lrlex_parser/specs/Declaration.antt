-- The declarations of a rule file (POSIX lex, the definitions section): start states alone.
use Rattle.std.specs.Prelude.{ℕ, ◌+◌, Bool, true, false, not, ◌&&◌, ◌||◌, if◌then◌else◌, Option, Some, None, List, [], ◌∷◌, length, drop, map, filter, take_while, slice_index, codes, ◌==◌}
use Rattle.std.specs.List.{list_all, flat_map, find, before_first}
use Rattle.std.specs.Char.{is_ascii_alphabetic, is_ascii_alphanumeric}
use Rattle.std.specs.Str.{chars, encode_utf8_all, byte}
use Rattle.lrlex_parser.specs.Text.{Piece, piece, is_empty, begins_with, same_text, cut, cut_lines, trim}
use Rattle.lrlex_base.specs.Classes.{is_white_space}
use Rattle.lrlex_parser.specs.Event.{span_of, Fault, fault_at, Event, states_of}
use Rattle.lrlex_base.specs.Spans.{at_place}
use Rattle.lrlex_rules.specs.Definition.{StartState}
use Rattle.lrlex_parser.specs.Event.FaultKind.{UnknownDeclaration, InvalidStartStateName}
use Rattle.lrlex_parser.specs.Event.Event.{NewState, Duplicate, Fatal}
use Rattle.lrlex_parser.specs.Event.Subject.{StateName}

-- `%%` ends a section
abbrev pub ends_section : List ℕ → Bool
ends_section line = begins_with (codes "%%") line

-- a line that is empty, or where comments are allowed begins with `//`, says nothing
abbrev pub is_skipped : Bool → List ℕ → Bool
is_skipped comments line = is_empty line || (comments && begins_with (codes "//") line)

-- the lines of a section that say something, up to its `%%`
abbrev pub section_lines : Bool → List Piece → List Piece
section_lines comments lines = filter (λ (line : Piece). not (is_skipped comments line.text)) (take_while (λ (line : Piece). not (ends_section line.text)) lines)

-- the line that ends it
abbrev pub section_end : List Piece → Option Piece
section_end lines = find (λ (line : Piece). ends_section line.text) lines

-- a state's name, exclusive or inclusive, as a declaration line has it, or the line's fault
pub data Declared : Type 0 where
  Name : (exclusive : Bool) → Piece → Declared
  Wrong : Fault → Declared

-- the first word of a line
abbrev pub first_word : List ℕ → List ℕ
first_word text = encode_utf8_all (before_first is_white_space (chars text))

-- `%s` declares inclusive states and `%x` exclusive ones, in either case, followed by any letters and digits (POSIX lex)
abbrev pub declares_exclusive : List ℕ → Option Bool
declares_exclusive word =
    let letter = slice_index word 1 in
    let fits = begins_with (codes "%") word && list_all is_ascii_alphanumeric (drop 2 word) in
    if fits && ((letter == byte "s") || (letter == byte "S")) then Some false
    else (if fits && ((letter == byte "x") || (letter == byte "X")) then Some true else None)

-- a letter, then letters, digits, `_` and `.`
abbrev pub is_state_name_char : ℕ → Bool
is_state_name_char c = is_ascii_alphanumeric c || (c == byte "_") || (c == byte ".")

abbrev pub is_state_name : List ℕ → Bool
is_state_name name = is_ascii_alphabetic (slice_index name 0) && list_all is_state_name_char name

abbrev pub declared_name : Bool → Piece → Declared
declared_name exclusive name = if is_state_name name.text then Name exclusive name else Wrong (fault_at InvalidStartStateName name.at)

-- the names are cut at each single white space character
abbrev pub names_in : Bool → Piece → List Declared
names_in exclusive parameters = map (declared_name exclusive) (cut is_white_space parameters)

-- the names of a declaration
abbrev pub declared_names : Piece → Option Bool → Piece → List Declared
declared_names line None parameters = Wrong (fault_at UnknownDeclaration line.at) ∷ []
declared_names line (Some exclusive) parameters =
    if is_empty parameters.text then Wrong (fault_at UnknownDeclaration line.at) ∷ [] else names_in exclusive parameters

-- what a line without the white space round it declares
abbrev pub declared_by : Piece → List Declared
declared_by line =
    let word = first_word line.text in
    declared_names line (declares_exclusive word) (trim (piece (line.at + length word) (drop (length word) line.text)))

-- the lines of a text without the white space round them
abbrev pub trimmed_lines : List ℕ → List Piece
trimmed_lines text = map trim (cut_lines (piece 0 text))

-- what the lines before the first `%%` declare, in order
abbrev pub declarations : Bool → List ℕ → List Declared
declarations comments text = flat_map declared_by (section_lines comments (trimmed_lines text))

-- the state that each rule file begins with (POSIX lex)
abbrev pub initial : StartState
initial = record { id = 0; name = codes "INITIAL"; name_span = at_place 0; exclusive = false }

-- the first of these states with the name
abbrev pub state_named : List ℕ → List StartState → Option StartState
state_named name states = find (λ s. same_text s.name name) states

-- a name is a new state, or a duplicate of an earlier one
abbrev pub new_or_duplicate : List StartState → Bool → Piece → Option StartState → Event
new_or_duplicate states exclusive name None = NewState (record { id = length states; name = name.text; name_span = span_of name; exclusive = exclusive })
new_or_duplicate states exclusive name (Some original) = Duplicate StateName original.name_span (span_of name)

abbrev pub state_event : List Event → Declared → Event
state_event earlier (Wrong fault) = Fatal fault
state_event earlier (Name exclusive name) = let states = states_of earlier in new_or_duplicate states exclusive name (state_named name.text states)
