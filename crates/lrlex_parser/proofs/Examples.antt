-- Rule texts and what comes of them, computed.
use Rattle.std.proofs.Common.{◌≡◌, ℕ, List, [], ◌∷◌, Option, Some, None, Result, Ok, Err, Bool, true, false, refl}
use Rattle.std.specs.Prelude.{codes}
use Rattle.std.specs.Str.{chars}
use Rattle.std.specs.Char.{encode_utf8}
use Rattle.lrlex_base.specs.Spans.{Span, span}
use Rattle.lrlex_rules.specs.declared.flags.LexFlags.{LexFlags}
use Rattle.lrlex_rules.specs.declared.states.StartStateOperation.{StartStateOperation}
use Rattle.lrlex_rules.specs.declared.states.StartStateOperation.TheVariants.{Push, Pop}
use Rattle.lrlex_rules.specs.Definition.{Definition, Rule, StartState}
use Rattle.lrlex_parser.specs.Event.{Fault, fault, fault_at}
use Rattle.lrlex_parser.specs.Event.FaultKind.{PrematureEnd, RoutinesNotSupported, InvalidName, DuplicateStartState, DuplicateName, RegexError, VerbatimNotSupported, TooManyRules}
use Rattle.lrlex_rules.specs.Flags.{resolved, config_of}
use Rattle.lrlex_parser.specs.Escape.{unescape, trim_head}
use Rattle.lrlex_parser.specs.RuleLine.{listed_ids, listed_names}
use Rattle.lrlex_parser.specs.LexParser.{settings}
use Rattle.lrlex_parser.specs.Outcome.{Settings, outcome}

abbrev unset : LexFlags
unset = record { dot_matches_new_line = None; multi_line = None; octal = None; posix_escapes = None; allow_wholeline_comments = None; case_insensitive = None; swap_greed = None; ignore_whitespace = None; unicode = None; size_limit = None; dfa_size_limit = None; nest_limit = None }

abbrev comments : LexFlags
comments = record unset { allow_wholeline_comments = Some true }

abbrev u32_ids : Settings
u32_ids = settings unset 4294967295 None

abbrev four_ids : Settings
four_ids = settings unset 3 None

abbrev with_comments : Settings
with_comments = settings comments 4294967295 None

abbrev refused_at : ℕ → Settings
refused_at o = settings unset 4294967295 (Some o)

abbrev rule : ℕ → Option (List ℕ) → Span → List ℕ → List ℕ → Option (ℕ × StartStateOperation) → Rule
rule id name name_span pattern states target = record { id = Some id; name = name; name_span = name_span; re_str = pattern; start_states = states; target = target; config = config_of unset }

abbrev state : ℕ → List ℕ → Span → Bool → StartState
state id name name_span exclusive = record { id = id; name = name; name_span = name_span; exclusive = exclusive }

abbrev defines : List StartState → List Rule → LexFlags → Result Definition (List Fault)
defines states rules flags = Ok (record { states = states; rules = rules; flags = resolved flags })

empty_text : outcome u32_ids [] ≡ Err (fault_at PrematureEnd 0 ∷ [])
unfolding chars encode_utf8
empty_text = refl

faults_together : outcome u32_ids (codes "%%\na 'A'\n( 'A'\n[0-9] int") ≡ Err (fault DuplicateName (span 6 7 ∷ span 12 13 ∷ []) ∷ fault_at InvalidName 21 ∷ [])
unfolding chars encode_utf8
faults_together = refl

states_and_targets : outcome u32_ids (codes "%x c\n%%\n\\( <+c>'OPEN'\n<c>\\( <+c>'OPEN2'\n<c>\\) <-c>'CLOSE'\n<c>[a-z]+ 'IN'\n[a-z]+ 'OUT'") ≡ defines (state 0 (codes "INITIAL") (span 0 0) false ∷ state 1 (codes "c") (span 3 4) true ∷ []) (rule 0 (Some (codes "OPEN")) (span 16 20) (codes "\\(") ([]) (Some (1, Push)) ∷ rule 1 (Some (codes "OPEN2")) (span 33 38) (codes "\\(") (1 ∷ []) (Some (1, Push)) ∷ rule 2 (Some (codes "CLOSE")) (span 51 56) (codes "\\)") (1 ∷ []) (Some (1, Pop)) ∷ rule 3 (Some (codes "IN")) (span 69 71) (codes "[a-z]+") (1 ∷ []) None ∷ rule 4 (Some (codes "OUT")) (span 81 84) (codes "[a-z]+") ([]) None ∷ []) unset
unfolding chars encode_utf8
states_and_targets = refl

pattern_refused : outcome (refused_at 3) (codes "%%\n\\qab\\ 'x'") ≡ Err (fault_at RegexError 3 ∷ [])
unfolding chars encode_utf8
pattern_refused = refl

escaped_blank : outcome u32_ids (codes "%%\na\\  'x'") ≡ defines (state 0 (codes "INITIAL") (span 0 0) false ∷ []) (rule 0 (Some (codes "x")) (span 8 9) (codes "a ") ([]) None ∷ []) unset
unfolding chars encode_utf8
escaped_blank = refl

initial_again : outcome u32_ids (codes "%s INITIAL\n%%") ≡ Err (fault DuplicateStartState (span 0 0 ∷ span 3 10 ∷ []) ∷ [])
unfolding chars encode_utf8
initial_again = refl

verbatim_line : outcome u32_ids (codes "%%\n. 'X'\n   ") ≡ Err (fault VerbatimNotSupported (span 9 12 ∷ []) ∷ [])
unfolding chars encode_utf8
verbatim_line = refl

too_many_rules : outcome four_ids (codes "%%\nx 'x0'\n\nx 'x1'\n\nx 'x2'\n\nx 'x3'\n\nx 'x4'\n\n") ≡ Err (fault_at TooManyRules 35 ∷ [])
unfolding chars encode_utf8
too_many_rules = refl

rule_behind_mark : outcome u32_ids (codes "%%a 'A'") ≡ defines (state 0 (codes "INITIAL") (span 0 0) false ∷ []) (rule 0 (Some (codes "A")) (span 5 6) (codes "a") ([]) None ∷ []) unset
unfolding chars encode_utf8
rule_behind_mark = refl

routines : outcome u32_ids (codes "%%\na 'A'\n%%\nx") ≡ Err (fault_at RoutinesNotSupported 9 ∷ [])
unfolding chars encode_utf8
routines = refl

comments_skipped : outcome with_comments (codes "// c\n%%\n// d\na 'A'") ≡ defines (state 0 (codes "INITIAL") (span 0 0) false ∷ []) (rule 0 (Some (codes "A")) (span 16 17) (codes "a") ([]) None ∷ []) comments
unfolding chars encode_utf8
comments_skipped = refl

word_boundary : unescape false (codes "\\b") ≡ (codes "\\b")
unfolding chars encode_utf8
word_boundary = refl

posix_backspace : unescape true (codes "\\b") ≡ (codes "\\x08")
unfolding chars encode_utf8
posix_backspace = refl

escaped_blank_stays : trim_head (codes "\\  ") ≡ (codes "\\ ")
unfolding chars encode_utf8
escaped_blank_stays = refl

star_beside_a_name : listed_ids (state 0 (codes "INITIAL") (span 0 0) false ∷ []) (listed_names (codes "INITIAL,*")) ≡ None
unfolding chars encode_utf8
star_beside_a_name = refl

star_is_all_states : outcome u32_ids (codes "%x k\n%%\n<*>a 'A'") ≡ defines (state 0 (codes "INITIAL") (span 0 0) false ∷ state 1 (codes "k") (span 3 4) true ∷ []) (rule 0 (Some (codes "A")) (span 14 15) (codes "a") (0 ∷ 1 ∷ []) None ∷ []) unset
unfolding chars encode_utf8
star_is_all_states = refl
