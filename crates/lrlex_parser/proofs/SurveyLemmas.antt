-- What a survey stands for after more events, and past a fatal one.
use Rattle.std.proofs.Common.{◌≡◌, ℕ, Bool, true, false, List, [], ◌∷◌, ◌++◌, map, Option, Some, None, Result, Ok, Err, refl, sym, ap, subst, ◌∙◌}
use Rattle.std.specs.Prelude.{if◌then◌else◌}
use Rattle.std.specs.List.{cons_option}
use Rattle.std.proofs.lemmas.List.{append-nil, append_assoc}
use Rattle.regex.specs.Patterns.{Config}
use Rattle.regex.specs.declared.error.Error.{Error}
use Rattle.lrlex_rules.specs.declared.flags.LexFlags.{LexFlags}
use Rattle.lrlex_parser.specs.declared.faults.LexBuildError.{LexBuildError}
use Rattle.lrlex_parser.specs.declared.survey.Survey.{Survey}
use Rattle.lrlex_rules.specs.Flags.{has_posix_escapes, config_of, size_limit_of}
use Rattle.lrlex_parser.specs.Text.{Piece}
use Rattle.lrlex_parser.specs.Escape.{trim_head}
use Rattle.lrlex_rules.specs.Definition.{StartState, Rule}
use Rattle.lrlex_parser.specs.Event.{Fault, span_of, Event, is_fatal, is_refused, states_of, rules_of, refused_patterns}
use Rattle.lrlex_parser.specs.Event.Event.{Verbatim, Fatal}
use Rattle.lrlex_parser.specs.Declaration.{Declared, state_named, state_event, new_or_duplicate}
use Rattle.lrlex_parser.specs.Declaration.Declared.{Name, Wrong}
use Rattle.lrlex_parser.specs.RuleLine.{LineParts, split, read_pattern}
use Rattle.lrlex_parser.specs.Outcome.{Settings, events_after, faults_after, rule_with_name, pattern_event, parts_event, split_event, is_verbatim, line_event}
use Rattle.lrlex_parser.specs.AllFaults.{until_fatal, name_events, part_faults}
use Rattle.lrlex_parser.specs.LexBuildResult.{as_fault, kind_error, regex_errors, AreRefusals}
use Rattle.lrlex_parser.specs.LexParser.{Represents}
use Rattle.lrlex_rules.specs.RuleParts.{as_state, as_rule}
use Rattle.lrlex_parser.specs.Survey.{EndsFatal, Surveys, IsCalm, IsAtFault, IsToldBy}
use Rattle.lrlex_parser.proofs.LexParserLemmas.{refused-push}
use Rattle.lrlex_parser.proofs.Runs.{events_after_refused}
use Rattle.lrlex_parser.proofs.Parts.{part_faults_end, part_faults_calm, part_faults_last, kept, states_kept, rules_kept, calm_kept, patterns_kept, faults_kept, none_kept, states_split, rules_split, patterns_split}

-- ---- events depend on the states and the rules before them alone
state_event_same : (a b : List Event) (d : Declared) → states_of a ≡ states_of b → state_event a d ≡ state_event b d
state_event_same a b (Wrong f) h = refl
state_event_same a b (Name exclusive name) h = ap (λ (ss : List StartState). new_or_duplicate ss exclusive name (state_named name.text ss)) h

more_states : (a b more : List Event) → states_of a ≡ states_of b → states_of (a ++ more) ≡ states_of (b ++ more)
more_states a b more h = states_split a more ∙ ap (λ (ss : List StartState). ss ++ states_of more) h ∙ sym (states_split b more)

more_rules : (a b more : List Event) → rules_of a ≡ rules_of b → rules_of (a ++ more) ≡ rules_of (b ++ more)
more_rules a b more h = rules_split a more ∙ ap (λ (rs : List Rule). rs ++ rules_of more) h ∙ sym (rules_split b more)

pub name_events_same : (a b : List Event) (ds : List Declared) → states_of a ≡ states_of b → name_events a ds ≡ name_events b ds
name_events_same a b [] h = refl
name_events_same a b (d ∷ ds) h =
    let e = state_event a d in
    let same : e ≡ state_event b d = state_event_same a b d h in
    ap (until_fatal e) (name_events_same (a ++ e ∷ []) (b ++ e ∷ []) ds (more_states a b (e ∷ []) h))
    ∙ ap (λ (x : Event). until_fatal x (name_events (b ++ x ∷ []) ds)) same

pattern_same : (s : Settings) (a b : List Event) (o : ℕ) (parts : LineParts) → states_of a ≡ states_of b → rules_of a ≡ rules_of b → (original : Option Rule) → parts_event s a o parts original ≡ parts_event s b o parts original
pattern_same s a b o parts h k (Some original) = refl
pattern_same s a b o parts h k None =
    ap (λ (ss : List StartState). pattern_event s (rules_of a) o parts (read_pattern (has_posix_escapes s.flags) ss o (trim_head parts.head))) h
    ∙ ap (λ (rs : List Rule). pattern_event s rs o parts (read_pattern (has_posix_escapes s.flags) (states_of b) o (trim_head parts.head))) k

split_same : (s : Settings) (a b : List Event) (o : ℕ) → states_of a ≡ states_of b → rules_of a ≡ rules_of b → (r : Result LineParts Fault) → split_event s a o r ≡ split_event s b o r
split_same s a b o h k (Err f) = refl
split_same s a b o h k (Ok parts) =
    ap (λ (rs : List Rule). parts_event s a o parts (rule_with_name rs parts.label.name)) k ∙ pattern_same s a b o parts h k (rule_with_name (rules_of b) parts.label.name)

pub line_event_same : (s : Settings) (a b : List Event) (line : Piece) → states_of a ≡ states_of b → rules_of a ≡ rules_of b → line_event s a line ≡ line_event s b line
line_event_same s a b line h k =
    ap (λ (x : Event). if is_verbatim line then Verbatim (span_of line) else x)
    (ap (λ (ss : List StartState). split_event s a line.at (split ss line)) h ∙ split_same s a b line.at h k (split (states_of b) line))

-- ---- the names of a declaration
names_step : (es : List Event) (e : Event) (rest more : List Event) (b : Bool) → is_fatal e ≡ b → (b ≡ true → rest ≡ es ++ e ∷ []) → (b ≡ false → rest ≡ (es ++ e ∷ []) ++ more) → rest ≡ es ++ (if b then e ∷ [] else e ∷ more)
names_step es e rest more true h k l = k refl
names_step es e rest more false h k l = l refl ∙ append_assoc es (e ∷ []) more

pub name_events_are : (es : List Event) (ds : List Declared) → is_refused es ≡ false → events_after state_event es ds ≡ es ++ name_events es ds
name_events_are es [] h = sym (append-nil es)
name_events_are es (d ∷ ds) h =
    let e = state_event es d in
    let next = es ++ e ∷ [] in
    let last : is_refused next ≡ is_fatal e = refused-push es e h in
    let is : events_after state_event next ds ≡ es ++ until_fatal e (name_events next ds) =
    names_step es e (events_after state_event next ds) (name_events next ds) (is_fatal e) refl (λ t. events_after_refused state_event next ds (last ∙ t)) (λ f. name_events_are next ds (last ∙ f)) in
    let first : events_after state_event es (d ∷ ds) ≡ events_after state_event next ds = rw h refl in
    first ∙ is

ends_step : (es : List Event) (e : Event) (more : List Event) (b : Bool) → is_fatal e ≡ b → is_refused es ≡ false → (b ≡ false → is_refused ((es ++ e ∷ []) ++ more) ≡ true → EndsFatal ((es ++ e ∷ []) ++ more))
    → is_refused (es ++ (if b then e ∷ [] else e ∷ more)) ≡ true → EndsFatal (es ++ (if b then e ∷ [] else e ∷ more))
ends_step es e more true h calm k r = record { before = es; last = e; split = refl; calm = calm; fatal = h }
ends_step es e more false h calm k r = subst EndsFatal (append_assoc es (e ∷ []) more) (k refl (ap is_refused (append_assoc es (e ∷ []) more) ∙ r))

pub name_events_end : (es : List Event) (ds : List Declared) → is_refused es ≡ false → is_refused (es ++ name_events es ds) ≡ true → EndsFatal (es ++ name_events es ds)
name_events_end es [] h r = let no : is_refused es ≡ true = ap is_refused (sym (append-nil es)) ∙ r in cc
name_events_end es (d ∷ ds) h r =
    let e = state_event es d in
    let next = es ++ e ∷ [] in
    ends_step es e (name_events next ds) (is_fatal e) refl h (λ f. name_events_end next ds (refused-push es e h ∙ f)) r

-- ---- refusals
pub errors_split : (xs ys : List LexBuildError) → regex_errors (xs ++ ys) ≡ regex_errors xs ++ regex_errors ys
errors_split [] ys = refl
errors_split (x ∷ xs) ys = elim (kind_error x) as (λ o. cons_option o (regex_errors (xs ++ ys)) ≡ cons_option o (regex_errors xs) ++ regex_errors ys) [ None ↦ errors_split xs ys | Some z ↦ ap (λ (zs : List Error). z ∷ zs) (errors_split xs ys) ]

join_refusals : (config : Config) (limit : ℕ) (ps : List (List ℕ)) (es : List Error) (qs : List (List ℕ)) (fs : List Error) → AreRefusals config limit ps es → AreRefusals config limit qs fs → AreRefusals config limit (ps ++ qs) (es ++ fs)
join_refusals config limit [] [] qs fs h k = k
join_refusals config limit [] (e ∷ es) qs fs h k = absurd h
join_refusals config limit (p ∷ ps) [] qs fs h k = absurd h
join_refusals config limit (p ∷ ps) (e ∷ es) qs fs h k = (h.0, join_refusals config limit ps es qs fs h.1 k)

map_split : (xs ys : List LexBuildError) → map as_fault (xs ++ ys) ≡ map as_fault xs ++ map as_fault ys
map_split [] ys = refl
map_split (x ∷ xs) ys = ap (λ (fs : List Fault). as_fault x ∷ fs) (map_split xs ys)

module _ {S : Type 0} (number : S → ℕ) (flags : LexFlags) (old : Survey S) (events : List Event) (was : Surveys number flags old events) where
  -- these events more
  abbrev grows : (new : Survey S) (more : List Event) → new.told ≡ old.told → Represents number flags new.parser (was.since ++ more) → Surveys number flags new (events ++ more)
  grows new more told now = record {
    since = was.since ++ more;
    parser = now;
    states = more_states was.since events more was.states;
    rules = more_rules was.since events more was.rules;
    told = λ rest. ap part_faults (append_assoc events more rest) ∙ was.told (more ++ rest)
        ∙ ap (λ v. map as_fault v.items ++ part_faults (was.since ++ (more ++ rest))) (sym told)
        ∙ ap (λ (es : List Event). map as_fault new.told.items ++ part_faults es) (sym (append_assoc was.since more rest));
    patterns = was.patterns;
    refused = patterns_split events more ∙ ap (λ (ps : List (List ℕ)). ps ++ refused_patterns more) was.refused ∙ append_assoc was.patterns (refused_patterns was.since) (refused_patterns more)
        ∙ ap (λ (ps : List (List ℕ)). was.patterns ++ ps) (sym (patterns_split was.since more));
    refusals = subst (λ v. AreRefusals (config_of flags) (size_limit_of flags) was.patterns (regex_errors v.items)) (sym told) was.refusals;
  }

  pub grows_to_fault : (new : Survey S) (more : List Event) → new.told ≡ old.told → Represents number flags new.parser (was.since ++ more) → (is_refused (was.since ++ more) ≡ true → EndsFatal (was.since ++ more)) → IsAtFault number flags new (events ++ more)
  grows_to_fault new more told now ends = (grows new more told now, ends)

  all_refusals : AreRefusals (config_of flags) (size_limit_of flags) (refused_patterns events) (regex_errors (old.told.items ++ old.parser.faults.list.items))
  all_refusals =
      let P : List (List ℕ) → Type 0 = λ ps. AreRefusals (config_of flags) (size_limit_of flags) ps (regex_errors (old.told.items ++ old.parser.faults.list.items)) in
      let Q : List Error → Type 0 = λ es. AreRefusals (config_of flags) (size_limit_of flags) (was.patterns ++ refused_patterns was.since) es in
      subst P (sym was.refused) (subst Q (sym (errors_split old.told.items old.parser.faults.list.items))
      (join_refusals (config_of flags) (size_limit_of flags) was.patterns (regex_errors old.told.items) (refused_patterns was.since) (regex_errors old.parser.faults.list.items) was.refusals was.parser.refusals))

  -- past a fatal fault
  abbrev passed : (new : Survey S) → EndsFatal was.since → new.told.items ≡ old.told.items ++ old.parser.faults.list.items → new.parser.states ≡ old.parser.states → new.parser.rules ≡ old.parser.rules → new.parser.faults.list.items ≡ [] → new.parser.is_refused ≡ false
      → Surveys number flags new events
  passed new ends told states rules none calm =
      let back = kept was.since in
      record {
        since = back;
        parser = record {
          states = ap (λ v. map as_state v.list.items) states ∙ was.parser.states ∙ sym (states_kept was.since);
          rules = ap (λ v. map (as_rule number) v.list.items) rules ∙ was.parser.rules ∙ sym (rules_kept was.since);
          faults = ap (map as_fault) none ∙ sym (none_kept was.since);
          refused = calm ∙ sym (calm_kept was.since);
          refusals =
              let P : List (List ℕ) → Type 0 = λ ps. AreRefusals (config_of flags) (size_limit_of flags) ps (regex_errors new.parser.faults.list.items) in
              let Q : List LexBuildError → Type 0 = λ es. AreRefusals (config_of flags) (size_limit_of flags) [] (regex_errors es) in
              subst P (sym (patterns_kept was.since)) (subst Q (sym none) tt);
        };
        states = states_kept was.since ∙ was.states;
        rules = rules_kept was.since ∙ was.rules;
        told = λ rest. was.told rest ∙ ap (λ (fs : List Fault). map as_fault old.told.items ++ fs) (part_faults_end was.since rest ends)
            ∙ sym (append_assoc (map as_fault old.told.items) (faults_after [] was.since) (part_faults rest))
            ∙ ap (λ (fs : List Fault). (map as_fault old.told.items ++ fs) ++ part_faults rest) (sym was.parser.faults)
            ∙ ap (λ (fs : List Fault). fs ++ part_faults rest) (sym (map_split old.told.items old.parser.faults.list.items) ∙ ap (map as_fault) (sym told))
            ∙ ap (λ (fs : List Fault). map as_fault new.told.items ++ fs) (sym (faults_kept was.since rest));
        patterns = refused_patterns events;
        refused = sym (append-nil (refused_patterns events)) ∙ ap (λ (ps : List (List ℕ)). refused_patterns events ++ ps) (sym (patterns_kept was.since));
        refusals = subst (λ (es : List LexBuildError). AreRefusals (config_of flags) (size_limit_of flags) (refused_patterns events) (regex_errors es)) (sym told) all_refusals;
      }

  pub passes_over : (new : Survey S) → EndsFatal was.since → new.told.items ≡ old.told.items ++ old.parser.faults.list.items → new.parser.states ≡ old.parser.states → new.parser.rules ≡ old.parser.rules → new.parser.faults.list.items ≡ [] → new.parser.is_refused ≡ false
      → IsCalm number flags new events
  passes_over new ends told states rules none calm = (passed new ends told states rules none calm, calm_kept was.since)

  -- at the end
  pub tells_all : (told : List LexBuildError) → told ≡ old.told.items ++ old.parser.faults.list.items → part_faults was.since ≡ faults_after [] was.since → IsToldBy flags events told
  tells_all told is part = record {
    faults = ap (map as_fault) is ∙ map_split old.told.items old.parser.faults.list.items ∙ ap (λ (fs : List Fault). map as_fault old.told.items ++ fs) (was.parser.faults ∙ sym part)
        ∙ ap (λ (es : List Event). map as_fault old.told.items ++ part_faults es) (sym (append-nil was.since)) ∙ sym (was.told []) ∙ ap part_faults (append-nil events);
    refusals = subst (λ (es : List LexBuildError). AreRefusals (config_of flags) (size_limit_of flags) (refused_patterns events) (regex_errors es)) (sym is) all_refusals;
  }

  pub tells_calm : (told : List LexBuildError) → told ≡ old.told.items ++ old.parser.faults.list.items → is_refused was.since ≡ false → IsToldBy flags events told
  tells_calm told is calm = tells_all told is (part_faults_calm was.since calm)

  tells_last : (told : List LexBuildError) → told ≡ old.told.items ++ old.parser.faults.list.items → EndsFatal was.since → IsToldBy flags events told
  tells_last told is ends = tells_all told is (part_faults_last was.since ends)

-- at the end, with a fault of the text as a whole
pub tells_fault : {S : Type 0} (number : S → ℕ) (flags : LexFlags) (old new : Survey S) (events : List Event) (was : IsCalm number flags old events) (f : Fault) → new.told ≡ old.told → Represents number flags new.parser (was.0.since ++ Fatal f ∷ [])
    → (told : List LexBuildError) → told ≡ new.told.items ++ new.parser.faults.list.items → IsToldBy flags (events ++ Fatal f ∷ []) told
tells_fault number flags old new events was f same now told is =
    tells_last number flags new (events ++ Fatal f ∷ []) (grows number flags old events was.0 new (Fatal f ∷ []) same now) told is (record { before = was.0.since; last = Fatal f; split = refl; calm = was.1; fatal = refl })
