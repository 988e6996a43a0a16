-- The event of a rule line.
use Rattle.std.proofs.Common.{◌≡◌, ℕ, ◌<◌, ◌≤◌, Bool, true, false, eqb, List, [], ◌∷◌, ◌++◌, length, map, Option, Some, None, Result, Ok, Err, refl, sym, ap, subst, ◌∙◌, arith}
use Rattle.std.specs.Prelude.{nat_lt, unwrap_or}
use Rattle.std.proofs.lemmas.List.{length-map}
use Rattle.std.proofs.lemmas.Bool.Decides.{nat_tests}
use Rattle.lrlex_rules.specs.declared.flags.LexFlags.{LexFlags}
use Rattle.lrlex_parser.specs.declared.lex_parser.LexParser.{LexParser}
use Rattle.lrlex_rules.specs.Flags.{resolved, has_posix_escapes, config_of, size_limit_of}
use Rattle.lrlex_parser.specs.Event.{Fault, fault_at, Event, states_of, rules_of, span_of}
use Rattle.lrlex_rules.specs.Definition.{StartState, Rule}
use Rattle.lrlex_parser.specs.Event.Event.{NewRule, Duplicate, Verbatim, Refused, Fatal}
use Rattle.lrlex_parser.specs.Event.FaultKind.{TooManyRules}
use Rattle.lrlex_parser.specs.Event.Subject.{RuleName}
use Rattle.lrlex_parser.specs.Text.{Piece}
use Rattle.lrlex_parser.specs.Escape.{trim_head}
use Rattle.lrlex_parser.specs.RuleLine.{LineParts, Pattern, read_pattern, split}
use Rattle.lrlex_parser.specs.Outcome.{Settings, rule_event, pattern_event, parts_event, split_event, rule_with_name, is_verbatim, line_event}
use Rattle.lrlex_parser.specs.LexParser.{Represents, Adds, AddsRefused, AddsLine, Suits, IsRefused, hits, refused_in, refused_of, as_fault}
use Rattle.lrlex_rules.specs.RuleParts.{as_state, as_rule}
use Rattle.lrlex_parser.specs.Duplicates.{with_duplicate}
use Rattle.regex.specs.Patterns.{Config}
use Rattle.regex.specs.declared.error.Error.{Error}
use Rattle.lrlex_rules.proofs.FlagLemmas.{config_resolved}
use Rattle.lrlex_parser.proofs.Refusals.{none_refused, pattern_refused}
use Rattle.lrlex_parser.proofs.LexParserLemmas.{adds_duplicate}

-- ---- the number of rules
lt_test : (a b : ℕ) → a < b → nat_lt a b ≡ true
lt_test a b h = grind (arith, nat_tests)

le_test : (a b : ℕ) → b ≤ a → nat_lt a b ≡ false
le_test a b h = grind (arith, nat_tests)

eq_test : (a : ℕ) → eqb a a ≡ true
eq_test a = grind (arith, nat_tests)

pub count_of : {S : Type 0} (number : S → ℕ) (flags : LexFlags) (b : LexParser S) (events : List Event) → Represents number flags b events → length b.rules.list.items ≡ length (rules_of events)
count_of number flags b events was = sym (length-map b.rules.list.items (as_rule number)) ∙ ap (length {A = Rule}) was.rules

-- ---- what an event comes from
module _ {S : Type 0} (number : S → ℕ) (flags : LexFlags) (greatest : ℕ) (old new : LexParser S) (o : ℕ) where
  -- one that does not look at the settings
  pub line_from : (e : Settings → List Event → Event) (f : List Event → Event)
      → ((s : Settings) → Suits s flags greatest → (events : List Event) → Represents number flags old events → f events ≡ e s events) → Adds number old new f → AddsLine number flags greatest old new o e
  line_from e f same adds s suits events was hit = let P : Event → Type 0 = λ x. Represents number flags new (events ++ x ∷ []) in subst P (same s suits events was) (adds flags events was)

  pub line_same : (e e' : Settings → List Event → Event)
      → ((s : Settings) → Suits s flags greatest → (events : List Event) → Represents number flags old events → e s events ≡ e' s events) → AddsLine number flags greatest old new o e → AddsLine number flags greatest old new o e'
  line_same e e' same adds s suits events was hit = let P : Event → Type 0 = λ x. Represents number flags new (events ++ x ∷ []) in subst P (same s suits events was) (adds s suits events was hit)

  module _ (parts : LineParts) (pattern : Pattern) where
    -- too many rules
    too_many : (s : Settings) (rules : List Rule) → s.greatest_id < length rules → Fatal (fault_at TooManyRules o) ≡ rule_event s rules o parts pattern
    too_many s rules h = sym (rw (lt_test s.greatest_id (length rules) h) refl)

    pub line_too_many : greatest < length old.rules.list.items → Adds number old new (λ events. Fatal (fault_at TooManyRules o)) → AddsLine number flags greatest old new o (λ s events. rule_event s (rules_of events) o parts pattern)
    line_too_many h = line_from (λ s events. rule_event s (rules_of events) o parts pattern) (λ events. Fatal (fault_at TooManyRules o))
        (λ s suits events was. let n = count_of number flags old events was in let g = suits.greatest_is in too_many s (rules_of events) (omega arith))

    -- a pattern that `regex` refused
    regex_refused : (s : Settings) (rules : List Rule) → length rules ≤ s.greatest_id → hits s.refused o ≡ true → Refused o pattern.text ≡ rule_event s rules o parts pattern
    regex_refused s rules h k = sym (rw (le_test s.greatest_id (length rules) h, k) refl)

    pub line_refused : (error : Error) → old.is_refused ≡ false → length old.rules.list.items ≤ greatest → IsRefused (config_of flags) (size_limit_of flags) pattern.text error → AddsRefused number old new error o → AddsLine number flags greatest old new o (λ s events. rule_event s (rules_of events) o parts pattern)
    line_refused error calm h why adds s suits events was hit =
        let n = count_of number flags old events was in
        let g = suits.greatest_is in
        let now = adds flags pattern.text why events was in
        let told : refused_of new ≡ Some o = ap refused_in now.faults ∙ pattern_refused events o pattern.text (sym was.refused ∙ calm) in
        let yes : hits s.refused o ≡ true = hit ∙ ap (λ (x : Option ℕ). hits x o) told ∙ eq_test o in
        let P : Event → Type 0 = λ x. Represents number flags new (events ++ x ∷ []) in
        subst P (regex_refused s (rules_of events) (omega arith) yes) now

    -- a new rule
    abbrev with_config : ℕ → Config → Rule
    with_config n config = record { id = Some n; name = parts.label.name; name_span = parts.label.span; re_str = pattern.text; start_states = pattern.start_states; target = parts.target; config = config }

    abbrev pub with_id : ℕ → LexFlags → Rule
    with_id n f = with_config n (config_of f)

    kept : (s : Settings) (rules : List Rule) → length rules ≤ s.greatest_id → hits s.refused o ≡ false → NewRule (with_id (length rules) s.flags) ≡ rule_event s rules o parts pattern
    kept s rules h k = sym (rw (le_test s.greatest_id (length rules) h, k) refl)

    pub line_kept : old.is_refused ≡ false → length old.rules.list.items ≤ greatest → new.faults ≡ old.faults
        → ((r : Rule) → r ≡ with_id (length old.rules.list.items) flags → (events : List Event) → Represents number flags old events → Represents number flags new (events ++ NewRule r ∷ []))
        → AddsLine number flags greatest old new o (λ s events. rule_event s (rules_of events) o parts pattern)
    line_kept calm h same adds s suits events was hit =
        let n = count_of number flags old events was in
        let g = suits.greatest_is in
        let told : refused_of new ≡ None = ap (λ v. refused_in (map as_fault v.list.items)) same ∙ ap refused_in was.faults ∙ none_refused events (sym was.refused ∙ calm) in
        let no : hits s.refused o ≡ false = hit ∙ ap (λ (x : Option ℕ). hits x o) told in
        let P : Event → Type 0 = λ x. Represents number flags new (events ++ x ∷ []) in
        let as_one : with_id (length (rules_of events)) s.flags ≡ with_id (length old.rules.list.items) flags = ap (λ (k : ℕ). with_id k s.flags) (sym n) ∙ ap (with_config (length old.rules.list.items)) (sym (config_resolved s.flags)) ∙ ap (λ (f : LexFlags). with_id (length old.rules.list.items) f) suits.flags_are in
        subst P (kept s (rules_of events) (omega arith) no) (adds (with_id (length (rules_of events)) s.flags) as_one events was)

-- a rule of these parts
pub rule_made : (parts : LineParts) (pattern : Pattern) (flags : LexFlags) (r : Rule) (k n : ℕ) (name : Option (List ℕ))
    → r ≡ record { id = Some k; name = name; name_span = parts.label.span; re_str = pattern.text; start_states = pattern.start_states; target = parts.target; config = config_of flags } → k ≡ n → name ≡ parts.label.name
    → r ≡ record { id = Some n; name = parts.label.name; name_span = parts.label.span; re_str = pattern.text; start_states = pattern.start_states; target = parts.target; config = config_of flags }
rule_made parts pattern flags r k n name e count named =
    let made : (i : ℕ) (m : Option (List ℕ)) → Rule = λ i m. record { id = Some i; name = m; name_span = parts.label.span; re_str = pattern.text; start_states = pattern.start_states; target = parts.target; config = config_of flags } in
    e ∙ ap (λ (i : ℕ). made i name) count ∙ ap (made n) named

pub at_most : (greatest n : ℕ) → (greatest < n → ⊥) → n ≤ greatest
at_most greatest n h = omega arith

-- ---- the parts of a line
posix_is : (flags : LexFlags) (s : Settings) → resolved s.flags ≡ flags → has_posix_escapes s.flags ≡ unwrap_or flags.posix_escapes false
posix_is flags s h = ap (λ (f : LexFlags). unwrap_or f.posix_escapes false) h

module _ {S : Type 0} (number : S → ℕ) (flags : LexFlags) (greatest : ℕ) (old : LexParser S) (o : ℕ) (parts : LineParts) where
  pub duplicate_is : (original : Rule) → Some original ≡ rule_with_name (map (as_rule number) old.rules.list.items) parts.label.name
      → (s : Settings) (events : List Event) → Represents number flags old events → Duplicate RuleName original.name_span parts.label.span ≡ split_event s events o (Ok parts)
  duplicate_is original found s events was = ap (parts_event s events o parts) (found ∙ ap (λ (rs : List Rule). rule_with_name rs parts.label.name) was.rules)

  module _ (none : None ≡ rule_with_name (map (as_rule number) old.rules.list.items) parts.label.name) where
    unnamed : (s : Settings) (events : List Event) → Represents number flags old events → parts_event s events o parts None ≡ split_event s events o (Ok parts)
    unnamed s events was = ap (parts_event s events o parts) (none ∙ ap (λ (rs : List Rule). rule_with_name rs parts.label.name) was.rules)

    pattern_here : (r : Result Pattern Fault) → r ≡ read_pattern (unwrap_or flags.posix_escapes false) (map as_state old.states.list.items) o (trim_head parts.head)
        → (s : Settings) → Suits s flags greatest → (events : List Event) → Represents number flags old events → r ≡ read_pattern (has_posix_escapes s.flags) (states_of events) o (trim_head parts.head)
    pattern_here r e s suits events was =
        e ∙ ap (λ (b : Bool). read_pattern b (map as_state old.states.list.items) o (trim_head parts.head)) (sym (posix_is flags s suits.flags_are))
        ∙ ap (λ (ss : List StartState). read_pattern (has_posix_escapes s.flags) ss o (trim_head parts.head)) was.states

    pub offered_is : (pattern : Pattern) → Ok pattern ≡ read_pattern (unwrap_or flags.posix_escapes false) (map as_state old.states.list.items) o (trim_head parts.head)
        → (s : Settings) → Suits s flags greatest → (events : List Event) → Represents number flags old events → rule_event s (rules_of events) o parts pattern ≡ split_event s events o (Ok parts)
    offered_is pattern e s suits events was =
        ap (λ (r : Result Pattern Fault). pattern_event s (rules_of events) o parts r) (pattern_here (Ok pattern) e s suits events was) ∙ unnamed s events was

    pub unread_is : (f : Fault) → Err f ≡ read_pattern (unwrap_or flags.posix_escapes false) (map as_state old.states.list.items) o (trim_head parts.head)
        → (s : Settings) → Suits s flags greatest → (events : List Event) → Represents number flags old events → Fatal f ≡ split_event s events o (Ok parts)
    unread_is f e s suits events was =
        ap (λ (r : Result Pattern Fault). pattern_event s (rules_of events) o parts r) (pattern_here (Err f) e s suits events was) ∙ unnamed s events was

-- ---- a line
pub verbatim_is : (s : Settings) (events : List Event) (line : Piece) → is_verbatim line ≡ true → Verbatim (span_of line) ≡ line_event s events line
verbatim_is s events line h = sym (rw h refl)

pub split_is : {S : Type 0} (number : S → ℕ) (flags : LexFlags) (old : LexParser S) (s : Settings) (events : List Event) (line : Piece) (r : Result LineParts Fault) → Represents number flags old events → is_verbatim line ≡ false → r ≡ split (map as_state old.states.list.items) line → split_event s events line.at r ≡ line_event s events line
split_is number flags old s events line r was h e =
    let there : r ≡ split (states_of events) line = e ∙ ap (λ (ss : List StartState). split ss line) was.states in
    ap (split_event s events line.at) there ∙ sym (rw h refl)

pub line_duplicate : {S : Type 0} (number : S → ℕ) (flags : LexFlags) (greatest : ℕ) (old new : LexParser S) (o : ℕ) (parts : LineParts) (original : Rule) → old.is_refused ≡ false → Some original ≡ rule_with_name (map (as_rule number) old.rules.list.items) parts.label.name
    → new.states ≡ old.states → new.rules ≡ old.rules → new.is_refused ≡ old.is_refused → map as_fault new.faults.list.items ≡ with_duplicate RuleName original.name_span parts.label.span (map as_fault old.faults.list.items)
    → AddsLine number flags greatest old new o (λ s events. split_event s events o (Ok parts))
line_duplicate number flags greatest old new o parts original calm found ss rs re errors s suits events was hit =
    let P : Event → Type 0 = λ x. Represents number flags new (events ++ x ∷ []) in
    subst P (duplicate_is number flags greatest old o parts original found s events was) (adds_duplicate number flags old new events was calm RuleName original.name_span parts.label.span ss rs re errors)
