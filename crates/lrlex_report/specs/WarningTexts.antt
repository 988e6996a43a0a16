-- What is shown of warnings.
use Rattle.std.specs.Prelude.{ℕ, Bool, List, [], ◌∷◌, ◌++◌, codes, flat_map}
use Rattle.std.specs.Str.{bytes_eq}
use Rattle.lrlex_report.specs.PlaceTexts.{place_text}
use Rattle.lrlex_report.specs.Warnings.{as_told}
use Rattle.lrlex_report.specs.declared.warnings.kinds.Warning.{Warning}
use Rattle.lrlex_report.specs.declared.warnings.kinds.WarningKind.{WarningKind}
use Rattle.lrlex_report.specs.declared.warnings.kinds.WarningKind.TheVariants.{NeverWins, NeverActive, LooksAround, NoTable, TargetInPattern, BlankAfterStates, LostEscape, EscapeAfterStates, LostAlternative, NameInPattern, QuotedPattern, BareOperator, LostCaret, GreedyDot, ClassOperator, UnknownClass, NeverEntered, NoRules}

-- what is unusual, why, and what to write in its place
abbrev pub warning_message : WarningKind → List ℕ
warning_message NeverWins = codes "this rule never wins: it matches no byte, or other rules match as much or more; put it before them, or make them match less"
warning_message NeverActive = codes "this rule is active in no start state; list one that is declared"
warning_message LooksAround = codes "this rule has no table, and is slower: $, \\b, \\B, \\z, \\<, \\> and a ^ within it look at what is beside the match; leave them out, or write a backslash before $ and ^ for the characters"
warning_message NoTable = codes "this rule has no table, and is slower: its table, or all tables together, would be too large; repeat fewer times, split the pattern, or have fewer rules"
warning_message TargetInPattern = codes "this target is part of the pattern; write no blank between the target and the name"
warning_message BlankAfterStates = codes "the blank after these start states is part of the pattern; leave it out, or write [ ]"
warning_message LostEscape = codes "a backslash is dropped here, before a letter that begins no escape; write the letter, or \\x41 in place of \\x{41}"
warning_message EscapeAfterStates = codes "after start states \\< and \\> are the beginning and the end of a word; write < and > without the backslash"
warning_message LostAlternative = codes "an alternative never matches here: it begins with an earlier one, which is tried first; put the longer one first"
warning_message NameInPattern = codes "this name is part of the pattern, since the last blank of a line is before its name; write nothing after the name"
warning_message QuotedPattern = codes "the quotes are part of this pattern; leave them out, and write operators with a backslash, as \\+"
warning_message BareOperator = codes "this pattern is an operator, and matches no byte; write a backslash before it to match its character"
warning_message LostCaret = codes "a ^ at the beginning does nothing, since a match may begin anywhere in a line; leave it out, or write \\^ for the character"
warning_message GreedyDot = codes "a . matches a newline too, so .* and .+ take all lines that follow; write [^\\n] in place of the dot, or .*? before what ends it"
warning_message ClassOperator = codes "this class has an operator: [ begins another class, and --, && and ~~ are operations on sets; write a backslash before the character, as \\[ or \\-"
warning_message UnknownClass = codes "this [:name:] is no class with a name, but a set of its characters; write it within a class, as [[:alpha:]], and one of alnum, alpha, ascii, blank, cntrl, digit, graph, lower, print, punct, space, upper, word or xdigit"
warning_message NeverEntered = codes "no rule enters this start state; name it as the target of a rule"
warning_message NoRules = codes "no rule is active in this start state, so lexing stops there; list it before a pattern"

-- ---- their names
abbrev pub warning_name : WarningKind → List ℕ
warning_name NeverWins = codes "NeverWins"
warning_name NeverActive = codes "NeverActive"
warning_name LooksAround = codes "LooksAround"
warning_name NoTable = codes "NoTable"
warning_name TargetInPattern = codes "TargetInPattern"
warning_name BlankAfterStates = codes "BlankAfterStates"
warning_name LostEscape = codes "LostEscape"
warning_name EscapeAfterStates = codes "EscapeAfterStates"
warning_name LostAlternative = codes "LostAlternative"
warning_name NameInPattern = codes "NameInPattern"
warning_name QuotedPattern = codes "QuotedPattern"
warning_name BareOperator = codes "BareOperator"
warning_name LostCaret = codes "LostCaret"
warning_name GreedyDot = codes "GreedyDot"
warning_name ClassOperator = codes "ClassOperator"
warning_name UnknownClass = codes "UnknownClass"
warning_name NeverEntered = codes "NeverEntered"
warning_name NoRules = codes "NoRules"

abbrev pub warning_kinds : List WarningKind
warning_kinds = NeverWins ∷ NeverActive ∷ LooksAround ∷ NoTable ∷ TargetInPattern ∷ BlankAfterStates ∷ LostEscape ∷ EscapeAfterStates ∷ LostAlternative ∷ NameInPattern ∷ QuotedPattern ∷ BareOperator ∷ LostCaret ∷ GreedyDot ∷ ClassOperator ∷ UnknownClass ∷ NeverEntered ∷ NoRules ∷ []

abbrev pub is_named : (name : List ℕ) → WarningKind → Bool
is_named name kind = bytes_eq (warning_name kind) name

-- ---- what people read
-- `Warning: MESSAGE [NAME]`
abbrev pub named_message : WarningKind → List ℕ
named_message kind = codes "Warning: " ++ warning_message kind ++ codes " [" ++ warning_name kind ++ codes "]"

-- `FILE:L:C: Warning: MESSAGE [NAME]`, then the line and the carets
abbrev pub warning_text : (file rules : List ℕ) → Warning → List ℕ
warning_text file rules w = place_text file rules (as_told w).1 (named_message (as_told w).0)

-- one after another
abbrev pub warning_texts : (file rules : List ℕ) → List Warning → List ℕ
warning_texts file rules ws = flat_map (warning_text file rules) ws
