-- The fault of a pattern that `regex` refused comes last, and no other is before it.
use Rattle.std.proofs.Common.{◌≡◌, ℕ, Bool, true, false, List, [], ◌∷◌, ◌++◌, map, Option, Some, None, refl, sym, ap, subst, ◌∙◌}
use Rattle.std.specs.Prelude.{◌||◌, if◌then◌else◌}
use Rattle.std.specs.List.{list_any, cons_option}
use Rattle.std.proofs.lemmas.List.{append-nil}
use Rattle.std.proofs.lemmas.List.Folds.{list_any-append}
use Rattle.regex.specs.Patterns.{Config}
use Rattle.regex.specs.declared.error.Error.{Error}
use Rattle.lrlex_parser.specs.declared.faults.LexBuildError.{LexBuildError}
use Rattle.lrlex_parser.specs.declared.faults.LexErrorKind.{LexErrorKind}
use Rattle.lrlex_parser.specs.declared.faults.LexErrorKind.TheVariants as kinds
use Rattle.lrlex_parser.specs.Event.{Fault, fault_at, Event, is_fatal, is_refused, refused_pattern, refused_patterns}
use Rattle.lrlex_parser.specs.Event.Event.{NewState, NewRule, Duplicate, Verbatim, Refused, Fatal}
use Rattle.lrlex_parser.specs.Event.FaultKind.{RegexError}
use Rattle.lrlex_parser.specs.Event.Subject.{StateName, RuleName}
use Rattle.lrlex_parser.specs.Outcome.{faults_after, fault_of}
use Rattle.lrlex_parser.specs.LexErrorKind.{as_kind, is_regex_error}
use Rattle.lrlex_parser.specs.LexParser.{first_start, refused_in, as_fault, regex_error, kind_error, regex_errors, IsRefused, AreRefusals}
use Rattle.lrlex_rules.specs.declared.flags.LexFlags.{LexFlags}
use Rattle.lrlex_rules.specs.Flags.{resolved, config_of, size_limit_of}
use Rattle.lrlex_parser.proofs.DuplicateLemmas.{faults_other, or_false}
use Rattle.lrlex_rules.proofs.FlagLemmas.{config_resolved}

abbrev pub has_regex_error : List Fault → Bool
has_regex_error fs = list_any (λ (f : Fault). is_regex_error f.kind) fs

pub refused_in-append : (fs gs : List Fault) → has_regex_error fs ≡ false → refused_in (fs ++ gs) ≡ refused_in gs
refused_in-append [] gs h = refl
refused_in-append (f ∷ fs) gs h = let two = or_false (is_regex_error f.kind) (has_regex_error fs) h in let here : is_regex_error f.kind ≡ false = two.0 in rw here (refused_in-append fs gs two.1)

none_if : (b : Bool) (f : Fault) → is_regex_error f.kind ≡ false → has_regex_error (if b then [] else f ∷ []) ≡ false
none_if true f h = refl
none_if false f h = rw h refl

quiet_fault : (earlier : List Event) (e : Event) (later : List Event) → is_fatal e ≡ false → has_regex_error (fault_of earlier e later) ≡ false
quiet_fault earlier (NewState _) later h = refl
quiet_fault earlier (NewRule _) later h = refl
quiet_fault earlier (Verbatim _) later h = refl
quiet_fault earlier (Refused _ _) later h = cc
quiet_fault earlier (Fatal _) later h = cc
quiet_fault earlier (Duplicate StateName o f) later h = none_if _ _ refl
quiet_fault earlier (Duplicate RuleName o f) later h = none_if _ _ refl

pub quiet_faults : (earlier events : List Event) → is_refused events ≡ false → has_regex_error (faults_after earlier events) ≡ false
quiet_faults earlier [] h = refl
quiet_faults earlier (e ∷ es) h =
    let two = or_false (is_fatal e) (is_refused es) h in
    list_any-append (λ (f : Fault). is_regex_error f.kind) (fault_of earlier e es) (faults_after (earlier ++ e ∷ []) es)
    ∙ ap (λ (b : Bool). b || has_regex_error (faults_after (earlier ++ e ∷ []) es)) (quiet_fault earlier e es two.0) ∙ quiet_faults (earlier ++ e ∷ []) es two.1

pub none_refused : (events : List Event) → is_refused events ≡ false → refused_in (faults_after [] events) ≡ None
none_refused events h = ap refused_in (sym (append-nil (faults_after [] events))) ∙ refused_in-append (faults_after [] events) [] (quiet_faults [] events h)

pub fatal_refused : (events : List Event) (f : Fault) → is_refused events ≡ false → refused_in (faults_after [] (events ++ Fatal f ∷ [])) ≡ refused_in (f ∷ [])
fatal_refused events f h = ap refused_in (faults_other [] events (Fatal f) refl) ∙ refused_in-append (faults_after [] events) (f ∷ []) (quiet_faults [] events h)

pub pattern_refused : (events : List Event) (at : ℕ) (pattern : List ℕ) → is_refused events ≡ false → refused_in (faults_after [] (events ++ Refused at pattern ∷ [])) ≡ Some at
pattern_refused events at pattern h = ap refused_in (faults_other [] events (Refused at pattern) refl) ∙ refused_in-append (faults_after [] events) (fault_at RegexError at ∷ []) (quiet_faults [] events h)

if_regex : (b : Bool) (x y z : Option ℕ) → y ≡ z → (if b then x else y) ≡ (if b then x else z)
if_regex b x y z e = ap (λ (o : Option ℕ). if b then x else o) e

pub refused_in-push : (fs : List Fault) (f : Fault) → is_regex_error f.kind ≡ false → refused_in (fs ++ f ∷ []) ≡ refused_in fs
refused_in-push [] f h = rw h refl
refused_in-push (g ∷ fs) f h = if_regex (is_regex_error g.kind) (first_start g.spans) (refused_in (fs ++ f ∷ [])) (refused_in fs) (refused_in-push fs f h)

-- ---- why `regex` refused patterns
patterns-append : (events : List Event) (e : Event) → refused_patterns (events ++ e ∷ []) ≡ refused_patterns events ++ cons_option (refused_pattern e) []
patterns-append [] e = refl
patterns-append (x ∷ events) e = elim (refused_pattern x) as (λ o. cons_option o (refused_patterns (events ++ e ∷ [])) ≡ cons_option o (refused_patterns events) ++ cons_option (refused_pattern e) []) [ None ↦ patterns-append events e | Some y ↦ ap (λ (ys : List (List ℕ)). y ∷ ys) (patterns-append events e) ]

errors-append : (errors : List LexBuildError) (e : LexBuildError) → regex_errors (errors ++ e ∷ []) ≡ regex_errors errors ++ cons_option (kind_error e) []
errors-append [] e = refl
errors-append (x ∷ errors) e = elim (kind_error x) as (λ o. cons_option o (regex_errors (errors ++ e ∷ [])) ≡ cons_option o (regex_errors errors) ++ cons_option (kind_error e) []) [ None ↦ errors-append errors e | Some y ↦ ap (λ (ys : List Error). y ∷ ys) (errors-append errors e) ]

no_pattern : (e : Event) → is_fatal e ≡ false → refused_pattern e ≡ None
no_pattern (NewState _) h = refl
no_pattern (NewRule _) h = refl
no_pattern (Duplicate _ _ _) h = refl
no_pattern (Verbatim _) h = refl
no_pattern (Refused _ _) h = cc
no_pattern (Fatal _) h = refl

no_patterns : (events : List Event) → is_refused events ≡ false → refused_patterns events ≡ []
no_patterns [] h = refl
no_patterns (e ∷ events) h =
    let two = or_false (is_fatal e) (is_refused events) h in
    ap (λ (o : Option (List ℕ)). cons_option o (refused_patterns events)) (no_pattern e two.0) ∙ no_patterns events two.1

no_error : (k : LexErrorKind) → is_regex_error (as_kind k) ≡ false → regex_error k ≡ None
no_error kinds.PrematureEnd h = refl
no_error kinds.RoutinesNotSupported h = refl
no_error kinds.UnknownDeclaration h = refl
no_error kinds.MissingSpace h = refl
no_error kinds.InvalidName h = refl
no_error kinds.UnknownStartState h = refl
no_error kinds.DuplicateStartState h = refl
no_error kinds.InvalidStartState h = refl
no_error kinds.InvalidStartStateName h = refl
no_error kinds.DuplicateName h = refl
no_error (kinds.RegexError e) h = cc
no_error kinds.VerbatimNotSupported h = refl
no_error kinds.TooManyRules h = refl

no_errors : (errors : List LexBuildError) → has_regex_error (map as_fault errors) ≡ false → regex_errors errors ≡ []
no_errors [] h = refl
no_errors (e ∷ errors) h =
    let two = or_false (is_regex_error (as_kind e.kind)) (has_regex_error (map as_fault errors)) h in
    ap (λ (o : Option Error). cons_option o (regex_errors errors)) (no_error e.kind two.0) ∙ no_errors errors two.1

none_of : (config : Config) (limit : ℕ) (patterns : List (List ℕ)) (errors : List Error) → patterns ≡ [] → errors ≡ [] → AreRefusals config limit patterns errors
none_of config limit patterns errors h k =
    let P : List (List ℕ) → Type 0 = λ ps. AreRefusals config limit ps errors in
    let Q : List Error → Type 0 = λ es. AreRefusals config limit [] es in
    subst P (sym h) (subst Q (sym k) tt)

-- none is refused before a fatal event, nor by one of another kind
pub calm_refusals : (config : Config) (limit : ℕ) (events : List Event) (errors : List LexBuildError) → is_refused events ≡ false → map as_fault errors ≡ faults_after [] events → AreRefusals config limit (refused_patterns events) (regex_errors errors)
calm_refusals config limit events errors h e = none_of config limit _ _ (no_patterns events h) (no_errors errors (ap has_regex_error e ∙ quiet_faults [] events h))

pub fatal_refusals : (config : Config) (limit : ℕ) (events : List Event) (f : Fault) (errors : List LexBuildError) → is_refused events ≡ false → is_regex_error f.kind ≡ false → map as_fault errors ≡ faults_after [] (events ++ Fatal f ∷ [])
    → AreRefusals config limit (refused_patterns (events ++ Fatal f ∷ [])) (regex_errors errors)
fatal_refusals config limit events f errors h own e =
    none_of config limit _ _ (patterns-append events (Fatal f) ∙ append-nil (refused_patterns events) ∙ no_patterns events h)
    (no_errors errors (ap has_regex_error (e ∙ faults_other [] events (Fatal f) refl) ∙ list_any-append (λ (g : Fault). is_regex_error g.kind) (faults_after [] events) (f ∷ [])
    ∙ rw (quiet_faults [] events h, own) refl))

-- one more pattern, and why
pub one_refusal : (config : Config) (limit : ℕ) (events : List Event) (at : ℕ) (pattern : List ℕ) (old : List LexBuildError) (x : LexBuildError) (error : Error) → is_refused events ≡ false → map as_fault old ≡ faults_after [] events
    → kind_error x ≡ Some error → IsRefused config limit pattern error → AreRefusals config limit (refused_patterns (events ++ Refused at pattern ∷ [])) (regex_errors (old ++ x ∷ []))
one_refusal config limit events at pattern old x error h e k is =
    let ps : refused_patterns (events ++ Refused at pattern ∷ []) ≡ pattern ∷ [] = patterns-append events (Refused at pattern) ∙ ap (λ (zs : List (List ℕ)). zs ++ pattern ∷ []) (no_patterns events h) in
    let es : regex_errors (old ++ x ∷ []) ≡ error ∷ [] = errors-append old x ∙ ap (λ (o : Option Error). regex_errors old ++ cons_option o []) k ∙ ap (λ (zs : List Error). zs ++ error ∷ []) (no_errors old (ap has_regex_error e ∙ quiet_faults [] events h)) in
    let P : List (List ℕ) → Type 0 = λ zs. AreRefusals config limit zs (regex_errors (old ++ x ∷ [])) in
    let Q : List Error → Type 0 = λ zs. AreRefusals config limit (pattern ∷ []) zs in
    subst P (sym ps) (subst Q (sym es) (is, tt))

-- ---- refused under resolved flags, as under those that were given
pub refused_as_given : (flags : LexFlags) (patterns : List (List ℕ)) (errors : List Error) → AreRefusals (config_of (resolved flags)) (size_limit_of (resolved flags)) patterns errors → AreRefusals (config_of flags) (size_limit_of flags) patterns errors
refused_as_given flags patterns errors h = let P : Config → Type 0 = λ config. AreRefusals config (size_limit_of flags) patterns errors in subst P (config_resolved flags) h
