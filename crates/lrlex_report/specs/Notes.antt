-- What the message of a fault ends with: the mistake that it usually comes of, and what to write.
use Rattle.std.specs.Prelude.{ℕ, Bool, not, ◌&&◌, ◌||◌, ◌==◌, if◌then◌else◌, List, [], slice_index, drop, codes}
use Rattle.std.specs.Char.{is_ascii_alphabetic}
use Rattle.std.specs.List.{list_any}
use Rattle.std.specs.Str.{byte}
use Rattle.lrlex_base.specs.Classes.{is_blank}
use Rattle.lrlex_parser.specs.LexBuildError.{fault_kind, fault_spans}
use Rattle.lrlex_parser.specs.Text.{is_empty, begins_with, same_text, trim_end}
use Rattle.lrlex_parser.specs.declared.faults.LexErrorKind.{LexErrorKind}
use Rattle.lrlex_parser.specs.declared.faults.LexErrorKind.TheVariants.{PrematureEnd, UnknownDeclaration, MissingSpace, InvalidName, UnknownStartState, InvalidStartState, InvalidStartStateName, RegexError, RoutinesNotSupported, VerbatimNotSupported}
use Rattle.lrlex_parser.specs.declared.faults.LexBuildError.{LexBuildError}
use Rattle.lrlex_report.specs.Encoding.{mark_note}
use Rattle.lrlex_report.specs.FaultRanges.{first_line, source_in, told_span}
use Rattle.lrlex_report.specs.PatternNotes.{braces_note, class_note, escape_note, number_note, operator_note, quotes_note, pattern_of}
use Rattle.lrlex_report.specs.PlaceTexts.{nearest}
use Rattle.lrlex_report.specs.Warnings.{ends_in, source_of}

-- the text from a place on
abbrev pub text_from : (rules : List ℕ) (at : ℕ) → List ℕ
text_from rules at = drop (nearest rules at) rules

-- the line from a place on
abbrev pub line_from : (rules : List ℕ) (at : ℕ) → List ℕ
line_from rules at = first_line (text_from rules at)

-- the first note, unless it is empty
abbrev pub or_note : (first second : List ℕ) → List ℕ
or_note first second = if is_empty first then second else first

-- of a text that begins with `//` or `/*`
abbrev pub comment_note : List ℕ → List ℕ
comment_note text =
    if begins_with (codes "//") text || begins_with (codes "/*") text
    then codes ": a comment is a line that begins with //, and only with the flag allow_wholeline_comments" else []

-- of a line of flex that sets options
abbrev pub option_note : (line : List ℕ) → List ℕ
option_note line =
    if begins_with (codes "%option") line
    then codes ": options of flex aren't read; leave the line out, and give flags, as case_insensitive, outside the text" else []

-- of a line that begins or ends a block of code
abbrev pub code_note : (line : List ℕ) → List ℕ
code_note line =
    if begins_with (codes "%{") line || begins_with (codes "%}") line || begins_with (codes "%top") line
    then codes ": blocks of code aren't read; leave them out" else []

-- a letter or `_`, with which a name of flex begins
abbrev pub is_word_start : ℕ → Bool
is_word_start c = is_ascii_alphabetic c || (c == byte "_")

-- a text that ends as a rule does: in a quote, or in `;`
abbrev pub ends_rule : (text : List ℕ) → Bool
ends_rule text = ends_in (byte "'") text || ends_in (byte "\"") text || ends_in (byte ";") text

-- a name, a blank and a pattern; a rule ends in its own name
abbrev pub is_definition : (line : List ℕ) → Bool
is_definition line = is_word_start (slice_index line 0) && list_any is_blank (trim_end line) && not (ends_rule (trim_end line))

abbrev pub definition_note : (line : List ℕ) → List ℕ
definition_note line =
    if is_definition line
    then codes ": definitions of patterns aren't read; leave the line out, and write the pattern in each rule, in place of {NAME}" else []

-- of a line of flex that declares no start states
abbrev pub flex_note : (line : List ℕ) → List ℕ
flex_note line = or_note (option_note line) (or_note (code_note line) (definition_note line))

-- of an unknown declaration
abbrev pub declaration_note : (rules : List ℕ) (at : ℕ) → List ℕ
declaration_note rules at =
    let flex = or_note (flex_note (line_from rules at)) (codes ": a line before %% is %s or %x with names of start states; rules come after it") in
    or_note (mark_note rules at) (or_note (comment_note (text_from rules at)) flex)

-- of flex's mark for the action of the next rule
abbrev pub bar_note : (name : List ℕ) → List ℕ
bar_note name = if same_text name (codes "|") then codes ": | takes no name from the next rule; write both patterns in one rule, as a|b, or give each a name" else []

-- the last word of an action
abbrev pub is_action : (name : List ℕ) → Bool
is_action name = begins_with (codes "{") name || ends_in (byte "}") name || ends_in (byte ";") name

abbrev pub action_note : (name : List ℕ) → List ℕ
action_note name = if is_action name then codes ": actions aren't read; write a name in quotes, or ; for no name, and nothing after it" else []

-- of a name that is neither `;` nor in quotes
abbrev pub word_note : (name : List ℕ) → List ℕ
word_note name =
    or_note (bar_note name) (or_note (action_note name) (codes ": write it in quotes and without blanks, or ; for no name; no action or comment follows it"))

-- of the word at this place, which is no name
abbrev pub name_note : (rules : List ℕ) (at : ℕ) → List ℕ
name_note rules at = or_note (comment_note (source_of rules at)) (word_note (trim_end (line_from rules at)))

-- a line that begins with a list of start states; a target, which begins with `<` too, has no blank after it
abbrev pub begins_list : (line : List ℕ) → Bool
begins_list line = begins_with (codes "<") line && list_any is_blank (trim_end line)

-- of a line whose pattern begins with `<`
abbrev pub list_note : (line : List ℕ) → List ℕ
list_note line =
    if begins_list line
    then codes ": a pattern that begins with < lists start states; write \\< for the character" else []

-- of a rule for the end of the text, as flex has it
abbrev pub end_note : (line : List ℕ) → List ℕ
end_note line = if begins_with (codes "<<EOF>>") line then codes ": no rule matches at the end of the text; leave it out" else []

-- of a start state that isn't declared: in a list, which begins the line, or in a target
abbrev pub undeclared_note : (line : List ℕ) → List ℕ
undeclared_note line =
    if begins_list line
    then codes ": declare it with %s or %x; commas separate the names of a list, and a target stands before the rule's name; a pattern that begins with the character < begins with \\<" else codes ": declare it with %s or %x"

abbrev pub state_note : (line : List ℕ) → List ℕ
state_note line = or_note (end_note line) (undeclared_note line)

-- of a rule without a blank
abbrev pub space_note : (text : List ℕ) → List ℕ
space_note text = or_note (comment_note text) (codes ": a rule is a pattern, a space or a tab, and a name in quotes, or ; for no name")

-- of a line whose pattern `regex` refuses
abbrev pub pattern_note : (line : List ℕ) → List ℕ
pattern_note line =
    let pattern = pattern_of line in
    let operator = or_note (quotes_note pattern) (or_note (class_note pattern) (operator_note pattern)) in
    let inside = or_note (braces_note pattern) operator in
    or_note (escape_note line) (or_note (number_note (source_in line)) inside)

-- of a fault of this kind at this place
abbrev pub kind_note : (rules : List ℕ) (at : ℕ) → LexErrorKind → List ℕ
kind_note rules at PrematureEnd = codes ": no line begins with %%; write one before the rules"
kind_note rules at UnknownDeclaration = declaration_note rules at
kind_note rules at MissingSpace = space_note (text_from rules at)
kind_note rules at InvalidName = name_note rules at
kind_note rules at UnknownStartState = state_note (line_from rules at)
kind_note rules at InvalidStartState = list_note (line_from rules at)
kind_note rules at (RegexError e) = pattern_note (line_from rules at)
kind_note rules at InvalidStartStateName = codes ": a name is an ASCII letter, then ASCII letters, digits, _ or .; one blank separates two names"
kind_note rules at RoutinesNotSupported = codes ": %% ends the rules, and only white space may follow; write \\%% for a pattern that begins with it"
kind_note rules at VerbatimNotSupported = codes ": white space begins the line; write the rule without it, or an empty line"
kind_note rules at _ = []

-- of a fault, by the place where its message is shown
abbrev pub fault_note : (rules : List ℕ) → LexBuildError → List ℕ
fault_note rules e = kind_note rules (told_span (fault_spans e)).start (fault_kind e)
