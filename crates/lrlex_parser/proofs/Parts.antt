-- Events parted after each fatal one, and the faults of the parts.
use Rattle.std.proofs.Common.{◌≡◌, Bool, true, false, List, [], ◌∷◌, ◌++◌, Some, None, refl, sym, ap, ◌∙◌}
use Rattle.std.specs.Prelude.{◌||◌, if◌then◌else◌, is_some}
use Rattle.std.specs.List.{list_any, flat_map, filter_map, cons_option}
use Rattle.std.proofs.lemmas.List.{append-nil}
use Rattle.lrlex_base.specs.Spans.{Span}
use Rattle.lrlex_rules.specs.Definition.{StartState, Rule}
use Rattle.lrlex_parser.specs.Event.{Fault, fault, Event, Subject, is_fatal, is_refused, new_state, new_rule, refused_pattern, states_of, rules_of, refused_patterns}
use Rattle.lrlex_parser.specs.Event.Event.{NewState, NewRule, Duplicate, Verbatim, Refused, Fatal}
use Rattle.lrlex_parser.specs.Outcome.{fault_of, faults_after, duplicate_of, kind_of}
use Rattle.lrlex_parser.specs.AllFaults.{onto_first_part, parted, part_faults}
use Rattle.lrlex_parser.specs.Survey.{EndsFatal}
use Rattle.lrlex_parser.proofs.DuplicateLemmas.{or_false}

-- ---- parts
parted_end : (before : List Event) (last : Event) (more : List Event) → is_refused before ≡ false → is_fatal last ≡ true → parted ((before ++ last ∷ []) ++ more) ≡ (before ++ last ∷ []) ∷ parted more
parted_end [] last more h k = rw k refl
parted_end (x ∷ before) last more h k =
    let two = or_false (is_fatal x) (is_refused before) h in
    let here : is_fatal x ≡ false = two.0 in
    rw here (ap (onto_first_part x) (parted_end before last more two.1 k))

parted_calm : (es : List Event) → is_refused es ≡ false → parted es ≡ es ∷ []
parted_calm [] h = refl
parted_calm (x ∷ es) h =
    let two = or_false (is_fatal x) (is_refused es) h in
    let here : is_fatal x ≡ false = two.0 in
    rw here (ap (onto_first_part x) (parted_calm es two.1))

-- the part up to a fatal event is told on its own
pub part_faults_end : (since more : List Event) → EndsFatal since → part_faults (since ++ more) ≡ faults_after [] since ++ part_faults more
part_faults_end since more e =
    ap (λ (es : List Event). part_faults (es ++ more)) e.split ∙ ap (flat_map (faults_after [])) (parted_end e.before e.last more e.calm e.fatal)
    ∙ ap (λ (es : List Event). faults_after [] es ++ part_faults more) (sym e.split)

pub part_faults_calm : (es : List Event) → is_refused es ≡ false → part_faults es ≡ faults_after [] es
part_faults_calm es h = ap (flat_map (faults_after [])) (parted_calm es h) ∙ append-nil (faults_after [] es)

pub part_faults_last : (since : List Event) → EndsFatal since → part_faults since ≡ faults_after [] since
part_faults_last since e = ap part_faults (sym (append-nil since)) ∙ part_faults_end since [] e ∙ append-nil (faults_after [] since)

-- ---- the new states and rules of events, which no fault is told of
abbrev onto_kept : Event → List Event → List Event
onto_kept (NewState s) es = NewState s ∷ es
onto_kept (NewRule r) es = NewRule r ∷ es
onto_kept (Duplicate s o f) es = es
onto_kept (Verbatim s) es = es
onto_kept (Refused at p) es = es
onto_kept (Fatal f) es = es

abbrev pub kept : List Event → List Event
kept [] = []
kept (e ∷ es) = onto_kept e (kept es)

states_onto : (e : Event) (ks es : List Event) → states_of ks ≡ states_of es → states_of (onto_kept e ks) ≡ states_of (e ∷ es)
states_onto (NewState s) ks es h = ap (λ (ss : List StartState). s ∷ ss) h
states_onto (NewRule r) ks es h = h
states_onto (Duplicate s o f) ks es h = h
states_onto (Verbatim s) ks es h = h
states_onto (Refused at p) ks es h = h
states_onto (Fatal f) ks es h = h

pub states_kept : (es : List Event) → states_of (kept es) ≡ states_of es
states_kept [] = refl
states_kept (e ∷ es) = states_onto e (kept es) es (states_kept es)

rules_onto : (e : Event) (ks es : List Event) → rules_of ks ≡ rules_of es → rules_of (onto_kept e ks) ≡ rules_of (e ∷ es)
rules_onto (NewState s) ks es h = h
rules_onto (NewRule r) ks es h = ap (λ (rs : List Rule). r ∷ rs) h
rules_onto (Duplicate s o f) ks es h = h
rules_onto (Verbatim s) ks es h = h
rules_onto (Refused at p) ks es h = h
rules_onto (Fatal f) ks es h = h

pub rules_kept : (es : List Event) → rules_of (kept es) ≡ rules_of es
rules_kept [] = refl
rules_kept (e ∷ es) = rules_onto e (kept es) es (rules_kept es)

calm_onto : (e : Event) (ks : List Event) → is_refused ks ≡ false → is_refused (onto_kept e ks) ≡ false
calm_onto (NewState s) ks h = h
calm_onto (NewRule r) ks h = h
calm_onto (Duplicate s o f) ks h = h
calm_onto (Verbatim s) ks h = h
calm_onto (Refused at p) ks h = h
calm_onto (Fatal f) ks h = h

pub calm_kept : (es : List Event) → is_refused (kept es) ≡ false
calm_kept [] = refl
calm_kept (e ∷ es) = calm_onto e (kept es) (calm_kept es)

patterns_onto : (e : Event) (ks : List Event) → refused_patterns ks ≡ [] → refused_patterns (onto_kept e ks) ≡ []
patterns_onto (NewState s) ks h = h
patterns_onto (NewRule r) ks h = h
patterns_onto (Duplicate s o f) ks h = h
patterns_onto (Verbatim s) ks h = h
patterns_onto (Refused at p) ks h = h
patterns_onto (Fatal f) ks h = h

pub patterns_kept : (es : List Event) → refused_patterns (kept es) ≡ []
patterns_kept [] = refl
patterns_kept (e ∷ es) = patterns_onto e (kept es) (patterns_kept es)

-- an earlier event that is no duplicate changes no fault
module _ (k : Event) (other : (s : Subject) (o : Span) → is_some (duplicate_of s o k) ≡ false) where
  fault_same : (earlier : List Event) (e : Event) (later : List Event) → fault_of (k ∷ earlier) e later ≡ fault_of earlier e later
  fault_same earlier (NewState s) later = refl
  fault_same earlier (NewRule r) later = refl
  fault_same earlier (Verbatim s) later = refl
  fault_same earlier (Refused at p) later = refl
  fault_same earlier (Fatal f) later = refl
  fault_same earlier (Duplicate s o f) later =
      ap (λ (b : Bool). if b || list_any (λ e. is_some (duplicate_of s o e)) earlier then [] else fault (kind_of s) (o ∷ f ∷ filter_map (duplicate_of s o) later) ∷ []) (other s o)

  faults_same : (earlier es : List Event) → faults_after (k ∷ earlier) es ≡ faults_after earlier es
  faults_same earlier [] = refl
  faults_same earlier (e ∷ later) =
      ap (λ (fs : List Fault). fs ++ faults_after (k ∷ (earlier ++ e ∷ [])) later) (fault_same earlier e later)
      ∙ ap (λ (fs : List Fault). fault_of earlier e later ++ fs) (faults_same (earlier ++ e ∷ []) later)

  parts_same : (silent : (later : List Event) → fault_of [] k later ≡ []) (parts : List (List Event)) → flat_map (faults_after []) (onto_first_part k parts) ≡ flat_map (faults_after []) parts
  parts_same silent [] = ap (λ (fs : List Fault). (fs ++ []) ++ []) (silent [])
  parts_same silent (p ∷ ps) =
      ap (λ (fs : List Fault). (fs ++ faults_after (k ∷ []) p) ++ flat_map (faults_after []) ps) (silent p)
      ∙ ap (λ (fs : List Fault). fs ++ flat_map (faults_after []) ps) (faults_same [] p)

faults_onto : (e : Event) (ks more : List Event) → part_faults (onto_kept e ks ++ more) ≡ part_faults (ks ++ more)
faults_onto (NewState s) ks more = parts_same (NewState s) (λ s o. refl) (λ later. refl) (parted (ks ++ more))
faults_onto (NewRule r) ks more = parts_same (NewRule r) (λ s o. refl) (λ later. refl) (parted (ks ++ more))
faults_onto (Duplicate s o f) ks more = refl
faults_onto (Verbatim s) ks more = refl
faults_onto (Refused at p) ks more = refl
faults_onto (Fatal f) ks more = refl

pub faults_kept : (es more : List Event) → part_faults (kept es ++ more) ≡ part_faults more
faults_kept [] more = refl
faults_kept (e ∷ es) more = faults_onto e (kept es) more ∙ faults_kept es more

pub none_kept : (es : List Event) → faults_after [] (kept es) ≡ []
none_kept es = sym (part_faults_calm (kept es) (calm_kept es)) ∙ ap part_faults (sym (append-nil (kept es))) ∙ faults_kept es []

-- ---- more events at the end
pub states_split : (xs ys : List Event) → states_of (xs ++ ys) ≡ states_of xs ++ states_of ys
states_split [] ys = refl
states_split (x ∷ xs) ys = elim (new_state x) as (λ o. cons_option o (states_of (xs ++ ys)) ≡ cons_option o (states_of xs) ++ states_of ys) [ None ↦ states_split xs ys | Some z ↦ ap (λ (zs : List StartState). z ∷ zs) (states_split xs ys) ]

pub rules_split : (xs ys : List Event) → rules_of (xs ++ ys) ≡ rules_of xs ++ rules_of ys
rules_split [] ys = refl
rules_split (x ∷ xs) ys = elim (new_rule x) as (λ o. cons_option o (rules_of (xs ++ ys)) ≡ cons_option o (rules_of xs) ++ rules_of ys) [ None ↦ rules_split xs ys | Some z ↦ ap (λ (zs : List Rule). z ∷ zs) (rules_split xs ys) ]

pub patterns_split : (xs ys : List Event) → refused_patterns (xs ++ ys) ≡ refused_patterns xs ++ refused_patterns ys
patterns_split [] ys = refl
patterns_split (x ∷ xs) ys = elim (refused_pattern x) as (λ o. cons_option o (refused_patterns (xs ++ ys)) ≡ cons_option o (refused_patterns xs) ++ refused_patterns ys) [ None ↦ patterns_split xs ys | Some z ↦ ap (λ zs. z ∷ zs) (patterns_split xs ys) ]
