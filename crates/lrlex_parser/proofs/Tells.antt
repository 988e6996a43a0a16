-- Where a line's fault names a pattern that `regex` refused, it is the line's own.
use Rattle.std.proofs.Common.{◌≡◌, ◌⊎◌, ℕ, Bool, true, false, eqb, ◌<◌, List, [], ◌∷◌, ◌++◌, Option, Some, None, Result, Ok, Err, refl, sym, ap, subst, inl, inr, ⊎_elim, ◌∙◌, arith}
use Rattle.std.specs.Prelude.{if◌then◌else◌, nat_lt, not, codes, ◌==◌, ◌+◌, ◌-◌, length, take, drop}
use Rattle.std.specs.List.{list_any, before_last, after_last}
use Rattle.std.specs.Option.{ok_or, option_map, option_map_or}
use Rattle.std.proofs.lemmas.Bool.Decides.{nat_tests}
use Rattle.lrlex_rules.specs.declared.flags.LexFlags.{LexFlags}
use Rattle.lrlex_parser.specs.declared.lex_parser.LexParser.{LexParser}
use Rattle.lrlex_parser.specs.Event.{Fault, fault_at, span_of, Event, is_refused, states_of, rules_of, ◌>>=◌}
use Rattle.lrlex_base.specs.Spans.{span, at_place}
use Rattle.lrlex_rules.specs.Definition.{StartState, Rule}
use Rattle.lrlex_parser.specs.Event.Event.{NewState, NewRule, Duplicate, Verbatim, Refused, Fatal}
use Rattle.lrlex_parser.specs.Event.FaultKind.{MissingSpace, InvalidName, UnknownStartState, InvalidStartState, TooManyRules}
use Rattle.lrlex_rules.specs.Flags.{has_posix_escapes, config_of}
use Rattle.lrlex_parser.specs.Escape.{trim_head, unescape}
use Rattle.lrlex_parser.specs.Text.{Piece, trim_end, begins_with}
use Rattle.lrlex_base.specs.Classes.{is_blank}
use Rattle.lrlex_parser.specs.RuleLine.{LineParts, RuleLabel, Pattern, is_greater, in_angles, after_angles, operation_of, target_name, state_id, is_unnamed, is_quoted, label_in, name_part, listed_ids, listed_names, target, target_of, label_of, split, read_pattern, parts_of_word}
use Rattle.lrlex_parser.specs.Outcome.{Settings, faults_after, rule_event, pattern_event, parts_event, split_event, rule_with_name, is_verbatim, line_event}
use Rattle.lrlex_parser.specs.LexParser.{Represents, hits, refused_in, refused_of}
use Rattle.lrlex_parser.proofs.LexParserLemmas.{refused-push}
use Rattle.lrlex_rules.specs.declared.states.StartStateOperation.{StartStateOperation}
use Rattle.lrlex_parser.proofs.Refusals.{none_refused, fatal_refused, pattern_refused}

abbrev pub IsAt : ℕ → Option ℕ → Type 0
IsAt o r = (r ≡ None) ⊎ (r ≡ Some o)

abbrev TellsIn : {A : Type 0} → ℕ → Result A Fault → Type 0
TellsIn o (Ok x) = Unit {0}
TellsIn o (Err f) = IsAt o (refused_in (f ∷ []))

record Tells {A : Type 0} (o : ℕ) (r : Result A Fault) : Type 0 where
  told : TellsIn o r

tells_bind : {A B : Type 0} (o : ℕ) (r : Result A Fault) (g : A → Result B Fault) → Tells o r → ((x : A) → Tells o (g x)) → Tells o (r >>= g)
tells_bind o (Ok x) g h k = k x
tells_bind o (Err f) g h k = record { told = h.told }

tells_if : {A : Type 0} (o : ℕ) (b : Bool) (x y : Result A Fault) → Tells o x → Tells o y → Tells o (if b then x else y)
tells_if o true x y h k = h
tells_if o false x y h k = k

tells_ok : {A : Type 0} (o : ℕ) (x : A) → Tells o (Ok x)
tells_ok o x = record { told = tt }

tells_err : {A : Type 0} (o : ℕ) (f : Fault) → refused_in (f ∷ []) ≡ None → Tells {A = A} o (Err f)
tells_err o f h = record { told = inl h }

tells_ok_or : {A : Type 0} (o : ℕ) (x : Option A) (f : Fault) → refused_in (f ∷ []) ≡ None → Tells o (ok_or x f)
tells_ok_or o None f h = record { told = inl h }
tells_ok_or o (Some x) f h = record { told = tt }

tells_state : (o : ℕ) (states : List StartState) (blank : ℕ) (text : List ℕ) → Tells o (target states blank text)
tells_state o states blank text = tells_ok_or o (option_map (λ (id : ℕ). (id, operation_of text)) (state_id states (target_name text))) (fault_at UnknownStartState (blank + 1)) refl

tells_target : (o : ℕ) (states : List StartState) (blank : ℕ) (word : List ℕ) → Tells o (target_of states blank word)
tells_target o states blank word =
    let inner : Result (Option (ℕ × StartStateOperation)) Fault = target states blank (in_angles word) >>= (λ t. Ok (Some t)) in
    tells_if o (not (begins_with (codes "<") word)) (Ok None) (if list_any is_greater word then inner else Err (fault_at InvalidStartState blank)) (tells_ok o None)
    (tells_if o (list_any is_greater word) inner (Err (fault_at InvalidStartState blank)) (tells_bind o (target states blank (in_angles word)) (λ t. Ok (Some t)) (tells_state o states blank (in_angles word)) (λ t. tells_ok o (Some t))) (tells_err o (fault_at InvalidStartState blank) refl))

tells_label_in : (o blank end : ℕ) (part : List ℕ) → Tells o (label_in blank end part)
tells_label_in o blank end part =
    let named : RuleLabel = record { name = Some (take (length part - 2) (drop 1 part)); span = span (end - length part + 1) (end - 1) } in
    let none : RuleLabel = record { name = None; span = at_place (blank + 1) } in
    tells_if o (is_unnamed part) (Ok none) (if is_quoted part then Ok named else Err (fault_at InvalidName (blank + 1))) (tells_ok o none)
    (tells_if o (is_quoted part) (Ok named) (Err (fault_at InvalidName (blank + 1))) (tells_ok o named) (tells_err o (fault_at InvalidName (blank + 1)) refl))

tells_word : (o : ℕ) (states : List StartState) (head : List ℕ) (blank : ℕ) (word : List ℕ) → Tells o (parts_of_word states head blank word)
tells_word o states head blank word =
    tells_bind o (target_of states blank word) (λ t. label_of blank word >>= (λ l. Ok (record { head = head; target = t; label = l }))) (tells_target o states blank word)
    (λ t. tells_bind o (label_of blank word) (λ l. Ok (record { head = head; target = t; label = l })) (tells_label_in o blank (blank + 1 + length word) (name_part word)) (λ l. tells_ok o (record { head = head; target = t; label = l })))

tells_split : (o : ℕ) (states : List StartState) (line : Piece) → Tells o (split states line)
tells_split o states line =
    let text = trim_end line.text in
    let head = before_last is_blank text in
    tells_if o (list_any is_blank text) (parts_of_word states head (line.at + length head) (after_last is_blank text)) (Err (fault_at MissingSpace line.at))
    (tells_word o states head (line.at + length head) (after_last is_blank text)) (tells_err o (fault_at MissingSpace line.at) refl)

tells_pattern : (posix : Bool) (states : List StartState) (o : ℕ) (head : List ℕ) → Tells o (read_pattern posix states o head)
tells_pattern posix states o head =
    let plain : Pattern = record { start_states = []; text = unescape posix head } in
    let listed : Option Pattern = option_map (λ (ids : List ℕ). record { start_states = ids; text = after_angles head }) (listed_ids states (listed_names (in_angles head))) in
    tells_if o (not (begins_with (codes "<") head)) (Ok plain) (if list_any is_greater head then ok_or listed (fault_at UnknownStartState o) else Err (fault_at InvalidStartState o)) (tells_ok o plain)
    (tells_if o (list_any is_greater head) (ok_or listed (fault_at UnknownStartState o)) (Err (fault_at InvalidStartState o)) (tells_ok_or o listed (fault_at UnknownStartState o) refl) (tells_err o (fault_at InvalidStartState o) refl))

abbrev pub TellsEvent : ℕ → Event → Type 0
TellsEvent o (Fatal f) = IsAt o (refused_in (f ∷ []))
TellsEvent o (NewState _) = Unit {0}
TellsEvent o (NewRule _) = Unit {0}
TellsEvent o (Duplicate _ _ _) = Unit {0}
TellsEvent o (Verbatim _) = Unit {0}
TellsEvent o (Refused at _) = at ≡ o

from_if : (o : ℕ) (b : Bool) (x y : Event) → TellsEvent o x → TellsEvent o y → TellsEvent o (if b then x else y)
from_if o true x y h k = h
from_if o false x y h k = k

from_rule : (s : Settings) (rules : List Rule) (o : ℕ) (parts : LineParts) (pattern : Pattern) → TellsEvent o (rule_event s rules o parts pattern)
from_rule s rules o parts pattern =
    let rule : Rule = record { id = Some (length rules); name = parts.label.name; name_span = parts.label.span; re_str = pattern.text; start_states = pattern.start_states; target = parts.target; config = config_of s.flags } in
    from_if o (nat_lt s.greatest_id (length rules)) (Fatal (fault_at TooManyRules o)) (if option_map_or (λ (x : ℕ). x == o) s.refused false then Refused o pattern.text else NewRule rule) (inl refl)
    (from_if o (option_map_or (λ (x : ℕ). x == o) s.refused false) (Refused o pattern.text) (NewRule rule) refl tt)

from_pattern : (s : Settings) (rules : List Rule) (o : ℕ) (parts : LineParts) (r : Result Pattern Fault) → Tells o r → TellsEvent o (pattern_event s rules o parts r)
from_pattern s rules o parts (Ok pattern) h = from_rule s rules o parts pattern
from_pattern s rules o parts (Err f) h = h.told

from_parts : (s : Settings) (events : List Event) (o : ℕ) (parts : LineParts) (original : Option Rule) → TellsEvent o (parts_event s events o parts original)
from_parts s events o parts (Some original) = tt
from_parts s events o parts None =
    from_pattern s (rules_of events) o parts (read_pattern (has_posix_escapes s.flags) (states_of events) o (trim_head parts.head)) (tells_pattern (has_posix_escapes s.flags) (states_of events) o (trim_head parts.head))

from_split : (s : Settings) (events : List Event) (o : ℕ) (r : Result LineParts Fault) → Tells o r → TellsEvent o (split_event s events o r)
from_split s events o (Ok parts) h = from_parts s events o parts (rule_with_name (rules_of events) parts.label.name)
from_split s events o (Err f) h = h.told

pub from_line : (s : Settings) (events : List Event) (line : Piece) → TellsEvent line.at (line_event s events line)
from_line s events line = from_if line.at (is_verbatim line) (Verbatim (span_of line)) (split_event s events line.at (split (states_of events) line)) tt (from_split s events line.at (split (states_of events) line) (tells_split line.at (states_of events) line))

by_event : (o : ℕ) (events : List Event) (e : Event) → is_refused events ≡ false → TellsEvent o e → IsAt o (refused_in (faults_after [] (events ++ e ∷ [])))
by_event o events (Fatal f) h t = subst (IsAt o) (sym (fatal_refused events f h)) t
by_event o events (Refused at p) h t = inr (pattern_refused events at p h ∙ ap Some t)
by_event o events (NewState x) h t = inl (none_refused (events ++ NewState x ∷ []) (refused-push events (NewState x) h))
by_event o events (NewRule x) h t = inl (none_refused (events ++ NewRule x ∷ []) (refused-push events (NewRule x) h))
by_event o events (Duplicate a b c) h t = inl (none_refused (events ++ Duplicate a b c ∷ []) (refused-push events (Duplicate a b c) h))
by_event o events (Verbatim x) h t = inl (none_refused (events ++ Verbatim x ∷ []) (refused-push events (Verbatim x) h))

pub refused_here : {S : Type 0} (number : S → ℕ) (flags : LexFlags) (new : LexParser S) (s : Settings) (events : List Event) (line : Piece) → is_refused events ≡ false → Represents number flags new (events ++ line_event s events line ∷ []) → IsAt line.at (refused_of new)
refused_here number flags new s events line h now = subst (IsAt line.at) (sym (ap refused_in now.faults)) (by_event line.at events (line_event s events line) h (from_line s events line))

other_place : (o o' : ℕ) → o < o' → eqb o' o ≡ false
other_place o o' h = grind (arith, nat_tests)

pub misses : (r : Option ℕ) (o o' : ℕ) → IsAt o' r → o < o' → hits r o ≡ false
misses r o o' at h = ⊎_elim (λ (e : r ≡ None). ap (λ (x : Option ℕ). hits x o) e) (λ (e : r ≡ Some o'). ap (λ (x : Option ℕ). hits x o) e ∙ other_place o o' h) at
