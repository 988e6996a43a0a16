-- A rule line, `PATTERN NAME`: its start-state list and pattern, its target and its name.
use Rattle.std.specs.Prelude.{ℕ, ◌+◌, ◌-◌, Bool, not, ◌&&◌, ◌||◌, if◌then◌else◌, Option, Some, None, List, [], ◌∷◌, length, drop, take, map, nat_lt, slice_index, codes, ◌==◌, Result, Ok, Err}
use Rattle.std.specs.Option.{option_map, ok_or}
use Rattle.std.specs.List.{list_any, before_first, after_first, before_last, after_last, slice_split}
use Rattle.std.specs.Str.{byte}
use Rattle.lrlex_rules.specs.declared.states.StartStateOperation.{StartStateOperation}
use Rattle.lrlex_rules.specs.declared.states.StartStateOperation.TheVariants.{ReplaceStack, Push, Pop}
use Rattle.lrlex_parser.specs.Text.{Piece, begins_with, same_text, trim_end, trim_text}
use Rattle.lrlex_base.specs.Classes.{is_blank}
use Rattle.lrlex_parser.specs.Event.{Fault, fault_at, ◌>>=◌}
use Rattle.lrlex_base.specs.Spans.{Span, span, at_place}
use Rattle.lrlex_rules.specs.Definition.{StartState}
use Rattle.lrlex_parser.specs.Event.FaultKind.{MissingSpace, InvalidName, UnknownStartState, InvalidStartState}
use Rattle.lrlex_parser.specs.Declaration.{state_named}
use Rattle.lrlex_parser.specs.Escape.{unescape}

abbrev pub is_greater : ℕ → Bool
is_greater c = c == byte ">"

-- `<..>` at the front of a text: what is inside, and what follows
abbrev pub in_angles : List ℕ → List ℕ
in_angles text = before_first is_greater (drop 1 text)

abbrev pub after_angles : List ℕ → List ℕ
after_angles text = after_first is_greater text

-- the id of the state with this name
abbrev pub state_id : List StartState → List ℕ → Option ℕ
state_id states name = option_map (λ (s : StartState). s.id) (state_named name states)

-- `+NAME` pushes a state, `-NAME` pops, and `NAME` replaces the stack
abbrev pub operation_of : List ℕ → StartStateOperation
operation_of text = if begins_with (codes "+") text then Push else (if begins_with (codes "-") text then Pop else ReplaceStack)

abbrev pub target_name : List ℕ → List ℕ
target_name text = if begins_with (codes "+") text || begins_with (codes "-") text then drop 1 text else text

-- the target between the angles, in the word after the blank at this place
abbrev pub target : List StartState → ℕ → List ℕ → Result (ℕ × StartStateOperation) Fault
target states blank text = ok_or (option_map (λ (id : ℕ). (id, operation_of text)) (state_id states (target_name text))) (fault_at UnknownStartState (blank + 1))

-- the target of a word, if it has one, and its name part
abbrev pub target_of : List StartState → ℕ → List ℕ → Result (Option (ℕ × StartStateOperation)) Fault
target_of states blank word =
    if not (begins_with (codes "<") word) then Ok None
    else (if list_any is_greater word then (target states blank (in_angles word) >>= (λ t. Ok (Some t))) else Err (fault_at InvalidStartState blank))

abbrev pub name_part : List ℕ → List ℕ
name_part word = if begins_with (codes "<") word then after_angles word else word

-- `;`, `""` and `''` name nothing
abbrev pub is_unnamed : List ℕ → Bool
is_unnamed part = same_text part (codes ";") || same_text part (codes "\"\"") || same_text part (codes "''")

-- more than two bytes, of which the first and the last are this quote
abbrev pub is_quoted_by : ℕ → List ℕ → Bool
is_quoted_by quote part = nat_lt 2 (length part) && ((slice_index part 0 == quote) && (slice_index part (length part - 1) == quote))

abbrev pub is_quoted : List ℕ → Bool
is_quoted part = is_quoted_by (byte "'") part || is_quoted_by (byte "\"") part

-- a rule's name, or none, and where it is
pub record RuleLabel : Type 0 where
  pub name : Option (List ℕ)
  pub span : Span

-- the name in the part that ends here, in the word after the blank at this place
abbrev pub label_in : ℕ → ℕ → List ℕ → Result RuleLabel Fault
label_in blank end part =
    if is_unnamed part then Ok (record { name = None; span = at_place (blank + 1) })
    else (if is_quoted part then Ok (record { name = Some (take (length part - 2) (drop 1 part)); span = span (end - length part + 1) (end - 1) })
    else Err (fault_at InvalidName (blank + 1)))

-- the name in the word after the blank at this place; it ends where the word does
abbrev pub label_of : ℕ → List ℕ → Result RuleLabel Fault
label_of blank word = label_in blank (blank + 1 + length word) (name_part word)

-- the parts of a rule line
pub record LineParts : Type 0 where
  pub head : List ℕ
  pub target : Option (ℕ × StartStateOperation)
  pub label : RuleLabel

abbrev pub parts_of_word : List StartState → List ℕ → ℕ → List ℕ → Result LineParts Fault
parts_of_word states head blank word = do
  target ← target_of states blank word
  label ← label_of blank word
  Ok (record { head = head; target = target; label = label })

-- a rule line's parts round its last blank, or its first fault
abbrev pub split : List StartState → Piece → Result LineParts Fault
split states line =
    let text = trim_end line.text in
    let head = before_last is_blank text in
    if list_any is_blank text then parts_of_word states head (line.at + length head) (after_last is_blank text) else Err (fault_at MissingSpace line.at)

-- a rule's start states, and its pattern
pub record Pattern : Type 0 where
  pub start_states : List ℕ
  pub text : List ℕ

-- the ids of all these names, or none where one is not declared
abbrev pub cons_both : Option ℕ → Option (List ℕ) → Option (List ℕ)
cons_both None ids = None
cons_both (Some id) None = None
cons_both (Some id) (Some ids) = Some (id ∷ ids)

abbrev pub state_ids : List StartState → List (List ℕ) → Option (List ℕ)
state_ids states [] = Some []
state_ids states (name ∷ names) = cons_both (state_id states (trim_text name)) (state_ids states names)

-- the names of a start-state list, which commas part
abbrev pub listed_names : List ℕ → List (List ℕ)
listed_names text = slice_split (λ c. c == byte ",") text

-- the names of what is left of such a list, where something is left
abbrev pub names_left : Option (List ℕ) → List (List ℕ)
names_left None = []
names_left (Some rest) = listed_names rest

-- the ids of states
abbrev pub all_ids : List StartState → List ℕ
all_ids states = map (λ (s : StartState). s.id) states

-- the ids that a list of names means; `*` alone means all states (this project's own)
abbrev pub listed_ids : List StartState → List (List ℕ) → Option (List ℕ)
listed_ids states (name ∷ []) = if same_text (trim_text name) (codes "*") then Some (all_ids states) else state_ids states (name ∷ [])
listed_ids states names = state_ids states names

-- the start states and the pattern of a rule line at o. After a start-state list the escapes are not rewritten.
abbrev pub read_pattern : Bool → List StartState → ℕ → List ℕ → Result Pattern Fault
read_pattern posix states o head =
    if not (begins_with (codes "<") head) then Ok (record { start_states = []; text = unescape posix head })
    else (if list_any is_greater head
    then ok_or (option_map (λ (ids : List ℕ). record { start_states = ids; text = after_angles head }) (listed_ids states (listed_names (in_angles head)))) (fault_at UnknownStartState o)
    else Err (fault_at InvalidStartState o))
