-- What a builder stands for after one more event.
use Rattle.std.proofs.Common.{◌≡◌, ℕ, Bool, true, false, List, [], ◌∷◌, ◌++◌, length, map, Some, None, Result, Ok, Err, refl, sym, ap, subst, ◌∙◌}
use Rattle.std.specs.Prelude.{OnOk, ◌||◌}
use Rattle.std.specs.List.{cons_option}
use Rattle.std.proofs.lemmas.List.{append-nil, length-map, map_push}
use Rattle.std.proofs.lemmas.List.Folds.{list_any-append}
use Rattle.lrlex_parser.specs.Event.{Fault, fault, fault_at, span_of, Event, Subject, is_fatal, is_refused, states_of, new_state, rules_of, new_rule, refused_patterns}
use Rattle.lrlex_base.specs.Spans.{Span}
use Rattle.lrlex_rules.specs.Definition.{StartState, Rule}
use Rattle.lrlex_parser.specs.Event.Event.{NewState, NewRule, Duplicate, Verbatim, Refused, Fatal}
use Rattle.lrlex_parser.specs.Event.FaultKind.{VerbatimNotSupported, InvalidStartStateName, RegexError}
use Rattle.lrlex_parser.specs.Event.Subject.{StateName}
use Rattle.lrlex_parser.specs.Text.{Piece}
use Rattle.lrlex_parser.specs.Declaration.{state_named, state_event, new_or_duplicate, Declared, declared_name, is_state_name}
use Rattle.lrlex_parser.specs.Declaration.Declared.{Name, Wrong}
use Rattle.lrlex_parser.specs.Outcome.{faults_after}
use Rattle.lrlex_parser.specs.Duplicates.{with_duplicate}
use Rattle.lrlex_parser.specs.LexParser.{Represents, Adds, as_fault, kind_error, regex_errors, IsRefused, AreRefusals}
use Rattle.lrlex_rules.specs.RuleParts.{as_state, as_rule}
use Rattle.lrlex_parser.specs.declared.lex_parser.LexParser.{LexParser}
use Rattle.lrlex_rules.specs.declared.flags.LexFlags.{LexFlags}
use Rattle.regex.specs.declared.error.Error.{Error}
use Rattle.lrlex_parser.specs.declared.faults.LexBuildError.{LexBuildError}
use Rattle.lrlex_rules.specs.Flags.{config_of, size_limit_of}
use Rattle.lrlex_parser.specs.LexErrorKind.{is_regex_error}
use Rattle.lrlex_parser.proofs.Refusals.{calm_refusals, fatal_refusals, one_refusal}
use Rattle.lrlex_parser.proofs.DuplicateLemmas.{with_duplicate_is, faults_other}

pub on_ok : {T E : Type 0} {P Q : Type 0} (r : Result T E) → (P → Q) → OnOk r P → OnOk r Q
on_ok (Ok x) f h = f h
on_ok (Err e) f h = tt

states-append : (events : List Event) (e : Event) → states_of (events ++ e ∷ []) ≡ states_of events ++ cons_option (new_state e) []
states-append [] e = refl
states-append (x ∷ events) e = elim (new_state x) as (λ o. cons_option o (states_of (events ++ e ∷ [])) ≡ cons_option o (states_of events) ++ cons_option (new_state e) []) [ None ↦ states-append events e | Some y ↦ ap (λ (ys : List StartState). y ∷ ys) (states-append events e) ]

rules-append : (events : List Event) (e : Event) → rules_of (events ++ e ∷ []) ≡ rules_of events ++ cons_option (new_rule e) []
rules-append [] e = refl
rules-append (x ∷ events) e = elim (new_rule x) as (λ o. cons_option o (rules_of (events ++ e ∷ [])) ≡ cons_option o (rules_of events) ++ cons_option (new_rule e) []) [ None ↦ rules-append events e | Some y ↦ ap (λ (ys : List Rule). y ∷ ys) (rules-append events e) ]

or_none : (b : Bool) → (b || false) ≡ b
or_none true = refl
or_none false = refl

pub refused-push : (events : List Event) (e : Event) → is_refused events ≡ false → is_refused (events ++ e ∷ []) ≡ is_fatal e
refused-push events e h = list_any-append is_fatal events (e ∷ []) ∙ rw h (or_none (is_fatal e))

-- ---- one event more, of each kind
module _ {S : Type 0} (number : S → ℕ) (flags : LexFlags) (old new : LexParser S) (events : List Event) (was : Represents number flags old events) (calm : old.is_refused ≡ false) where
  quiet : is_refused events ≡ false
  quiet = sym was.refused ∙ calm

  same_states : new.states ≡ old.states → (e : Event) → new_state e ≡ None → map as_state new.states.list.items ≡ states_of (events ++ e ∷ [])
  same_states same e none = ap (λ v. map as_state v.list.items) same ∙ was.states ∙ sym (states-append events e ∙ ap (λ o. states_of events ++ cons_option o []) none ∙ append-nil (states_of events))

  same_rules : new.rules ≡ old.rules → (e : Event) → new_rule e ≡ None → map (as_rule number) new.rules.list.items ≡ rules_of (events ++ e ∷ [])
  same_rules same e none = ap (λ v. map (as_rule number) v.list.items) same ∙ was.rules ∙ sym (rules-append events e ∙ ap (λ o. rules_of events ++ cons_option o []) none ∙ append-nil (rules_of events))

  still : new.is_refused ≡ old.is_refused → (e : Event) → is_fatal e ≡ false → new.is_refused ≡ is_refused (events ++ e ∷ [])
  still same e none = same ∙ calm ∙ sym (refused-push events e quiet ∙ none)

  pub adds_state : (s : StartState) → new.rules ≡ old.rules → new.faults ≡ old.faults → new.is_refused ≡ old.is_refused → map as_state new.states.list.items ≡ map as_state old.states.list.items ++ s ∷ [] → Represents number flags new (events ++ NewState s ∷ [])
  adds_state s rs es re is = let e = NewState s in
      let now : map as_fault new.faults.list.items ≡ faults_after [] (events ++ e ∷ []) = ap (λ v. map as_fault v.list.items) es ∙ was.faults ∙ sym (faults_other [] events e refl ∙ append-nil (faults_after [] events)) in
      record {
        states = is ∙ ap (λ (ss : List StartState). ss ++ s ∷ []) was.states ∙ sym (states-append events e);
        rules = same_rules rs e refl;
        faults = now;
        refused = still re e refl;
        refusals = calm_refusals (config_of flags) (size_limit_of flags) (events ++ e ∷ []) new.faults.list.items (refused-push events e quiet) now;
      }

  pub adds_rule : (r : Rule) → new.states ≡ old.states → new.faults ≡ old.faults → new.is_refused ≡ old.is_refused → map (as_rule number) new.rules.list.items ≡ map (as_rule number) old.rules.list.items ++ r ∷ [] → Represents number flags new (events ++ NewRule r ∷ [])
  adds_rule r ss es re is = let e = NewRule r in
      let now : map as_fault new.faults.list.items ≡ faults_after [] (events ++ e ∷ []) = ap (λ v. map as_fault v.list.items) es ∙ was.faults ∙ sym (faults_other [] events e refl ∙ append-nil (faults_after [] events)) in
      record {
        states = same_states ss e refl;
        rules = is ∙ ap (λ (rs : List Rule). rs ++ r ∷ []) was.rules ∙ sym (rules-append events e);
        faults = now;
        refused = still re e refl;
        refusals = calm_refusals (config_of flags) (size_limit_of flags) (events ++ e ∷ []) new.faults.list.items (refused-push events e quiet) now;
      }

  pub adds_duplicate : (s : Subject) (original found : Span) → new.states ≡ old.states → new.rules ≡ old.rules → new.is_refused ≡ old.is_refused
      → map as_fault new.faults.list.items ≡ with_duplicate s original found (map as_fault old.faults.list.items) → Represents number flags new (events ++ Duplicate s original found ∷ [])
  adds_duplicate s original found ss rs re is = let e = Duplicate s original found in
      let now : map as_fault new.faults.list.items ≡ faults_after [] (events ++ e ∷ []) = is ∙ ap (with_duplicate s original found) was.faults ∙ sym (with_duplicate_is events s original found quiet) in
      record {
        states = same_states ss e refl;
        rules = same_rules rs e refl;
        faults = now;
        refused = still re e refl;
        refusals = calm_refusals (config_of flags) (size_limit_of flags) (events ++ e ∷ []) new.faults.list.items (refused-push events e quiet) now;
      }

  pub adds_verbatim : (x : Span) → new.states ≡ old.states → new.rules ≡ old.rules → new.is_refused ≡ old.is_refused
      → map as_fault new.faults.list.items ≡ map as_fault old.faults.list.items ++ fault VerbatimNotSupported (x ∷ []) ∷ [] → Represents number flags new (events ++ Verbatim x ∷ [])
  adds_verbatim x ss rs re is = let e = Verbatim x in
      let now : map as_fault new.faults.list.items ≡ faults_after [] (events ++ e ∷ []) = is ∙ ap (λ (fs : List Fault). fs ++ fault VerbatimNotSupported (x ∷ []) ∷ []) was.faults ∙ sym (faults_other [] events e refl) in
      record {
        states = same_states ss e refl;
        rules = same_rules rs e refl;
        faults = now;
        refused = still re e refl;
        refusals = calm_refusals (config_of flags) (size_limit_of flags) (events ++ e ∷ []) new.faults.list.items (refused-push events e quiet) now;
      }

  pub adds_fatal : (f : Fault) → is_regex_error f.kind ≡ false → new.states ≡ old.states → new.rules ≡ old.rules → new.is_refused ≡ true
      → map as_fault new.faults.list.items ≡ map as_fault old.faults.list.items ++ f ∷ [] → Represents number flags new (events ++ Fatal f ∷ [])
  adds_fatal f own ss rs re is = let e = Fatal f in
      let now : map as_fault new.faults.list.items ≡ faults_after [] (events ++ e ∷ []) = is ∙ ap (λ (fs : List Fault). fs ++ f ∷ []) was.faults ∙ sym (faults_other [] events e refl) in
      record {
        states = same_states ss e refl;
        rules = same_rules rs e refl;
        faults = now;
        refused = re ∙ sym (refused-push events e quiet);
        refusals = fatal_refusals (config_of flags) (size_limit_of flags) events f new.faults.list.items quiet own now;
      }

  pub adds_refused : (at : ℕ) (pattern : List ℕ) (error : Error) (x : LexBuildError) → new.states ≡ old.states → new.rules ≡ old.rules → new.is_refused ≡ true
      → new.faults.list.items ≡ old.faults.list.items ++ x ∷ [] → as_fault x ≡ fault_at RegexError at → kind_error x ≡ Some error → IsRefused (config_of flags) (size_limit_of flags) pattern error → Represents number flags new (events ++ Refused at pattern ∷ [])
  adds_refused at pattern error x ss rs re is fault_is kind_is why =
      let e = Refused at pattern in
      let P : List LexBuildError → Type 0 = λ es. AreRefusals (config_of flags) (size_limit_of flags) (refused_patterns (events ++ e ∷ [])) (regex_errors es) in
      record {
        states = same_states ss e refl;
        rules = same_rules rs e refl;
        faults = ap (map as_fault) is ∙ map_push as_fault old.faults.list.items x ∙ ap (λ (f : Fault). map as_fault old.faults.list.items ++ f ∷ []) fault_is ∙ ap (λ (fs : List Fault). fs ++ fault_at RegexError at ∷ []) was.faults ∙ sym (faults_other [] events e refl);
        refused = re ∙ sym (refused-push events e quiet);
        refusals = subst P (sym is) (one_refusal (config_of flags) (size_limit_of flags) events at pattern old.faults.list.items x error quiet was.faults kind_is why);
      }

-- ---- names of states
-- a name that is there already
pub declares_again : {S : Type 0} (number : S → ℕ) (old new : LexParser S) (name : Piece) (exclusive : Bool) (original : StartState) → old.is_refused ≡ false → new.states ≡ old.states → new.rules ≡ old.rules → new.is_refused ≡ old.is_refused
    → state_named name.text (map as_state old.states.list.items) ≡ Some original
    → map as_fault new.faults.list.items ≡ with_duplicate StateName original.name_span (span_of name) (map as_fault old.faults.list.items)
    → Adds number old new (λ events. state_event events (Name exclusive name))
declares_again number old new name exclusive original calm ss rs re found errors flags events was =
    let e = Duplicate StateName original.name_span (span_of name) in
    let says : e ≡ state_event events (Name exclusive name) =
    sym (ap (new_or_duplicate (states_of events) exclusive name) (ap (state_named name.text) (sym was.states) ∙ found)) in
    let P : Event → Type 0 = λ x. Represents number flags new (events ++ x ∷ []) in
    subst P says (adds_duplicate number flags old new events was calm StateName original.name_span (span_of name) ss rs re errors)

-- a new name
pub declares_new : {S : Type 0} (number : S → ℕ) (old new : LexParser S) (name : Piece) (exclusive : Bool) → old.is_refused ≡ false → new.rules ≡ old.rules → new.faults ≡ old.faults → new.is_refused ≡ old.is_refused
    → state_named name.text (map as_state old.states.list.items) ≡ None
    → map as_state new.states.list.items ≡ map as_state old.states.list.items ++ record { id = length old.states.list.items; name = name.text; name_span = span_of name; exclusive = exclusive } ∷ []
    → Adds number old new (λ events. state_event events (Name exclusive name))
declares_new number old new name exclusive calm rs es re found states flags events was =
    let e = NewState (record { id = length (states_of events); name = name.text; name_span = span_of name; exclusive = exclusive }) in
    let says : e ≡ state_event events (Name exclusive name) =
    sym (ap (new_or_duplicate (states_of events) exclusive name) (ap (state_named name.text) (sym was.states) ∙ found)) in
    let count : length old.states.list.items ≡ length (states_of events) = sym (length-map old.states.list.items as_state) ∙ ap (length {A = StartState}) was.states in
    let P : Event → Type 0 = λ x. Represents number flags new (events ++ x ∷ []) in
    subst P says (adds_state number flags old new events was calm (record { id = length (states_of events); name = name.text; name_span = span_of name; exclusive = exclusive }) rs es re
    (states ∙ ap (λ (n : ℕ). map as_state old.states.list.items ++ record { id = n; name = name.text; name_span = span_of name; exclusive = exclusive } ∷ []) count))

-- a name, as it is a state's name or not
pub declares_right : {S : Type 0} (number : S → ℕ) (old new : LexParser S) (exclusive : Bool) (name : Piece) → is_state_name name.text ≡ true → Adds number old new (λ events. state_event events (Name exclusive name)) → Adds number old new (λ events. state_event events (declared_name exclusive name))
declares_right number old new exclusive name h adds flags events was =
    let is : Name exclusive name ≡ declared_name exclusive name = sym (rw h refl) in
    let P : Declared → Type 0 = λ d. Represents number flags new (events ++ state_event events d ∷ []) in
    subst P is (adds flags events was)

pub declares_wrong : {S : Type 0} (number : S → ℕ) (old new : LexParser S) (exclusive : Bool) (name : Piece) → is_state_name name.text ≡ false → Adds number old new (λ events. Fatal (fault_at InvalidStartStateName name.at)) → Adds number old new (λ events. state_event events (declared_name exclusive name))
declares_wrong number old new exclusive name h adds flags events was =
    let is : Wrong (fault_at InvalidStartStateName name.at) ≡ declared_name exclusive name = sym (rw h refl) in
    let P : Declared → Type 0 = λ d. Represents number flags new (events ++ state_event events d ∷ []) in
    subst P is (adds flags events was)
