-- All faults begin with those that the reading tells.
use Rattle.std.proofs.Common.{◌≡◌, ℕ, ◌+◌, ◌≤◌, Bool, true, false, eqb, List, [], ◌∷◌, ◌++◌, drop, Option, Some, None, refl, sym, ap, subst, inr, ⊎_elim, ◌∙◌, arith}
use Rattle.std.specs.Prelude.{if◌then◌else◌, ◌||◌}
use Rattle.std.specs.List.{flat_map}
use Rattle.std.proofs.lemmas.Bool.{eqb-true}
use Rattle.std.proofs.lemmas.Bool.Decides.{nat_tests}
use Rattle.std.proofs.lemmas.List.{append-nil, append_assoc}
use Rattle.std.proofs.lemmas.List.Folds.{list_any-append}
use Rattle.lrlex_rules.specs.declared.flags.LexFlags.{LexFlags}
use Rattle.lrlex_rules.specs.Flags.{allows_comments}
use Rattle.lrlex_parser.specs.Text.{Piece, is_white, cut_lines}
use Rattle.lrlex_parser.specs.Event.{Fault, fault_at, Event, is_fatal, is_refused}
use Rattle.lrlex_parser.specs.Event.Event.{NewState, NewRule, Duplicate, Verbatim, Refused, Fatal}
use Rattle.lrlex_parser.specs.Event.FaultKind.{RoutinesNotSupported}
use Rattle.lrlex_parser.specs.Declaration.{initial, declared_by, state_event, section_lines, section_end, trimmed_lines, declarations}
use Rattle.lrlex_parser.specs.Outcome.{Settings, events_after, line_event, rules_section, end_events, rules_events, events_of, faults_after, definition_or_faults}
use Rattle.lrlex_parser.specs.AllFaults.{settings_at, declaration_events, rule_events, all_after, declared_lines, lines_after, rule_lines, routines_fault, fault_after, text_fault, then_fault, all_events, onto_first_part, parted, part_faults, all_faults}
use Rattle.lrlex_parser.specs.LexBuildResult.{settings, refused_in, faults_of, BeginAsRead}
use Rattle.lrlex_parser.specs.LexParser.{hits}
use Rattle.lrlex_parser.specs.Survey.{EndsFatal}
use Rattle.lrlex_parser.proofs.DuplicateLemmas.{or_false}
use Rattle.lrlex_parser.proofs.LexParserLemmas.{refused-push}
use Rattle.lrlex_parser.proofs.Refusals.{none_refused, fatal_refused, pattern_refused}
use Rattle.lrlex_parser.proofs.Rising.{Rise, rise_weak, section_rise, as_written}
use Rattle.lrlex_parser.proofs.Runs.{events_after_refused, events_after-append}
use Rattle.lrlex_parser.proofs.SurveyLemmas.{name_events_are, name_events_end}
use Rattle.lrlex_parser.proofs.Tells.{IsAt, TellsEvent, from_line}
use Rattle.lrlex_parser.proofs.Verdicts.{by, is_refusal, stays, stays_fatal}

-- ---- the first part of events
abbrev pub first : List Event → List Event
first [] = []
first (e ∷ es) = if is_fatal e then e ∷ [] else e ∷ first es

abbrev later : List Event → List (List Event)
later [] = []
later (e ∷ es) = if is_fatal e then parted es else later es

two_parts : (e : Event) (es : List Event) (b : Bool) → is_fatal e ≡ b → parted es ≡ first es ∷ later es
    → (if b then (e ∷ []) ∷ parted es else onto_first_part e (parted es)) ≡ (if b then e ∷ [] else e ∷ first es) ∷ (if b then parted es else later es)
two_parts e es true h k = refl
two_parts e es false h k = ap (onto_first_part e) k

parted_first : (es : List Event) → parted es ≡ first es ∷ later es
parted_first [] = refl
parted_first (e ∷ es) = two_parts e es (is_fatal e) refl (parted_first es)

pub faults_first : (es : List Event) → part_faults es ≡ faults_after [] (first es) ++ flat_map (faults_after []) (later es)
faults_first es = ap (flat_map (faults_after [])) (parted_first es)

calm_first : (es more : List Event) → is_refused es ≡ false → first (es ++ more) ≡ es ++ first more
calm_first [] more h = refl
calm_first (e ∷ es) more h =
    let two = or_false (is_fatal e) (is_refused es) h in
    let here : is_fatal e ≡ false = two.0 in
    rw here (ap (λ (xs : List Event). e ∷ xs) (calm_first es more two.1))

pub own_first : (es : List Event) → is_refused es ≡ false → first es ≡ es
own_first es h = ap first (sym (append-nil es)) ∙ calm_first es [] h ∙ append-nil es

ended_step : (e : Event) (es more : List Event) (b : Bool) → is_fatal e ≡ b → (b || is_refused es) ≡ true → (is_refused es ≡ true → first (es ++ more) ≡ first es)
    → (if b then e ∷ [] else e ∷ first (es ++ more)) ≡ (if b then e ∷ [] else e ∷ first es)
ended_step e es more true h r k = refl
ended_step e es more false h r k = ap (λ (xs : List Event). e ∷ xs) (k r)

pub ended_first : (es more : List Event) → is_refused es ≡ true → first (es ++ more) ≡ first es
ended_first [] more h = cc
ended_first (e ∷ es) more h = ended_step e es more (is_fatal e) refl h (λ r. ended_first es more r)

last_first : (es : List Event) → EndsFatal es → first es ≡ es
last_first es e =
    let one : first (e.last ∷ []) ≡ e.last ∷ [] = let f = e.fatal in rw f refl in
    ap first e.split ∙ calm_first e.before (e.last ∷ []) e.calm ∙ ap (λ (xs : List Event). e.before ++ xs) one ∙ sym e.split

calm_step : (e : Event) (es : List Event) (b : Bool) → is_fatal e ≡ b → is_refused (if b then e ∷ [] else e ∷ first es) ≡ false → (is_refused (first es) ≡ false → (first es ≡ es) × (later es ≡ []))
    → ((if b then e ∷ [] else e ∷ first es) ≡ e ∷ es) × ((if b then parted es else later es) ≡ [])
calm_step e es true h r k = let no : true ≡ false = sym (ap (λ (x : Bool). x || false) h) ∙ r in cc
calm_step e es false h r k = let both = k ((or_false (is_fatal e) (is_refused (first es)) r).1) in (ap (λ (xs : List Event). e ∷ xs) both.0, both.1)

calm_all : (es : List Event) → is_refused (first es) ≡ false → (first es ≡ es) × (later es ≡ [])
calm_all [] h = (refl, refl)
calm_all (e ∷ es) h = calm_step e es (is_fatal e) refl h (λ r. calm_all es r)

-- ---- lines only add events
abbrev added : (List Event → Piece → List Event) → List Event → List Piece → List Event
added f es [] = []
added f es (l ∷ ls) = f es l ++ added f (es ++ f es l) ls

all_after_adds : (f : List Event → Piece → List Event) (es : List Event) (ls : List Piece) → all_after f es ls ≡ es ++ added f es ls
all_after_adds f es [] = sym (append-nil es)
all_after_adds f es (l ∷ ls) = all_after_adds f (es ++ f es l) ls ∙ append_assoc es (f es l) (added f (es ++ f es l) ls)

first_stays : (f : List Event → Piece → List Event) (es : List Event) (ls : List Piece) → is_refused es ≡ true → first (all_after f es ls) ≡ first es
first_stays f es ls h = ap first (all_after_adds f es ls) ∙ ended_first es (added f es ls) h

still_refused : (f : List Event → Piece → List Event) (es : List Event) (ls : List Piece) → is_refused es ≡ true → is_refused (all_after f es ls) ≡ true
still_refused f es ls h = ap is_refused (all_after_adds f es ls) ∙ list_any-append is_fatal es (added f es ls) ∙ rw h refl

-- ---- declarations
declared_case : (es : List Event) (l : Piece) (ls : List Piece) (b : Bool) → is_refused es ≡ false → is_refused (es ++ declaration_events es l) ≡ b
    → (b ≡ false → first (all_after declaration_events (es ++ declaration_events es l) ls) ≡ events_after state_event (es ++ declaration_events es l) (flat_map declared_by ls))
    → first (all_after declaration_events (es ++ declaration_events es l) ls) ≡ events_after state_event (es ++ declaration_events es l) (flat_map declared_by ls)
declared_case es l ls false h r k = k refl
declared_case es l ls true h r k =
    let next = es ++ declaration_events es l in
    first_stays declaration_events next ls r ∙ last_first next (name_events_end es (declared_by l) h r) ∙ sym (events_after_refused state_event next (flat_map declared_by ls) r)

pub declared_first : (es : List Event) (ls : List Piece) → is_refused es ≡ false → first (all_after declaration_events es ls) ≡ events_after state_event es (flat_map declared_by ls)
declared_first es [] h = own_first es h
declared_first es (l ∷ ls) h =
    let next = es ++ declaration_events es l in
    declared_case es l ls (is_refused next) h refl (λ c. declared_first next ls c)
    ∙ ap (λ (xs : List Event). events_after state_event xs (flat_map declared_by ls)) (sym (name_events_are es (declared_by l) h))
    ∙ events_after-append state_event es (declared_by l) (flat_map declared_by ls)

-- ---- rule lines
module _ (flags : LexFlags) (greatest : ℕ) (refuses : ℕ → Bool) where
  abbrev says : List Event → Piece → Event
  says es l = line_event (settings_at flags greatest refuses l.at) es l

  -- the place that the first fatal event tells of a refusal, if it does
  abbrev place_of : Event → Option ℕ → Option ℕ
  place_of (Refused at p) next = Some at
  place_of (Fatal f) next = refused_in (f ∷ [])
  place_of (NewState s) next = next
  place_of (NewRule r) next = next
  place_of (Duplicate s o f) next = next
  place_of (Verbatim s) next = next

  abbrev place : List Event → List Piece → Option ℕ
  place es [] = None
  place es (l ∷ ls) = place_of (says es l) (place (es ++ says es l ∷ []) ls)

  abbrev Beyond : ℕ → Option ℕ → Type 0
  Beyond a r = (x : ℕ) → hits r x ≡ true → a ≤ x

  at_own : (a o : ℕ) (r : Option ℕ) → a ≤ o → IsAt o r → Beyond a r
  at_own a o r h at x k =
      ⊎_elim (λ (e : r ≡ None). let no : false ≡ true = sym (ap (λ y. hits y x) e) ∙ k in cc)
      (λ (e : r ≡ Some o). let is : o ≡ x = eqb-true o x (sym (ap (λ y. hits y x) e) ∙ k) in omega (arith, is, h)) at

  beyond_of : (a o : ℕ) (e : Event) (next : Option ℕ) → a ≤ o → TellsEvent o e → Beyond a next → Beyond a (place_of e next)
  beyond_of a o (Refused at p) next h t k = at_own a o (Some at) h (inr (ap Some t))
  beyond_of a o (Fatal f) next h t k = at_own a o (refused_in (f ∷ [])) h t
  beyond_of a o (NewState s) next h t k = k
  beyond_of a o (NewRule r) next h t k = k
  beyond_of a o (Duplicate s x f) next h t k = k
  beyond_of a o (Verbatim s) next h t k = k

  weaker : (a b : ℕ) (r : Option ℕ) → b ≤ a → Beyond a r → Beyond b r
  weaker a b r h k x y = let low = k x y in omega (arith, low, h)

  beyond : (a : ℕ) (es : List Event) (ls : List Piece) → Rise a ls → Beyond a (place es ls)
  beyond a es [] rise x k = cc
  beyond a es (l ∷ ls) rise x k =
      let low = rise.0 in
      beyond_of a l.at (says es l) (place (es ++ says es l ∷ []) ls) low (from_line (settings_at flags greatest refuses l.at) es l)
      (weaker (l.at + 1) a (place (es ++ says es l ∷ []) ls) (omega arith) (beyond (l.at + 1) (es ++ says es l ∷ []) ls rise.1)) x k

  misses : (o : ℕ) (r : Option ℕ) (b : Bool) → hits r o ≡ b → Beyond (o + 1) r → b ≡ false
  misses o r false h k = refl
  misses o r true h k = let low = k o h in absurd (omega (arith, low))

  same_place : (o : ℕ) → eqb o o ≡ true
  same_place o = grind (arith, nat_tests)

  calm_agrees : (es : List Event) (l : Piece) (next : Option ℕ) → Beyond (l.at + 1) next → is_refusal (says es l) ≡ false → line_event (by flags greatest next) es l ≡ says es l
  calm_agrees es l next k n =
      let r = (settings_at flags greatest refuses l.at).refused in
      stays flags greatest r next es l (hits r l.at) refl (misses l.at next (hits next l.at) refl k) n

  fatal_agrees : (es : List Event) (l : Piece) (r' : Option ℕ) (b : Bool) → hits r' l.at ≡ b → is_fatal (says es l) ≡ true → is_refusal (says es l) ≡ false → line_event (by flags greatest r') es l ≡ says es l
  fatal_agrees es l r' true h f n = let r = (settings_at flags greatest refuses l.at).refused in stays_fatal flags greatest r r' es l (hits r l.at) refl h f
  fatal_agrees es l r' false h f n = let r = (settings_at flags greatest refuses l.at).refused in stays flags greatest r r' es l (hits r l.at) refl h n

  -- the line says the same where the reading is asked with that place
  agrees : (es : List Event) (l : Piece) (next : Option ℕ) (e : Event) → says es l ≡ e → TellsEvent l.at e → Beyond (l.at + 1) next → line_event (by flags greatest (place_of e next)) es l ≡ says es l
  agrees es l next (Refused at p) is t k =
      let r = (settings_at flags greatest refuses l.at).refused in
      stays_fatal flags greatest r (Some at) es l (hits r l.at) refl (ap (λ (x : ℕ). eqb x l.at) t ∙ same_place l.at) (ap is_fatal is)
  agrees es l next (Fatal f) is t k = fatal_agrees es l (refused_in (f ∷ [])) (hits (refused_in (f ∷ [])) l.at) refl (ap is_fatal is) (ap is_refusal is)
  agrees es l next (NewState s) is t k = calm_agrees es l next k (ap is_refusal is)
  agrees es l next (NewRule r) is t k = calm_agrees es l next k (ap is_refusal is)
  agrees es l next (Duplicate s o f) is t k = calm_agrees es l next k (ap is_refusal is)
  agrees es l next (Verbatim s) is t k = calm_agrees es l next k (ap is_refusal is)

  passes_on : (e : Event) (next : Option ℕ) → is_fatal e ≡ false → place_of e next ≡ next
  passes_on (Refused at p) next h = cc
  passes_on (Fatal f) next h = cc
  passes_on (NewState s) next h = refl
  passes_on (NewRule r) next h = refl
  passes_on (Duplicate s o f) next h = refl
  passes_on (Verbatim s) next h = refl

  -- up to the first fatal event, the lines say what the reading says
  lines_case : (es : List Event) (l : Piece) (ls : List Piece) (r : Option ℕ) (b : Bool) → is_refused es ≡ false → is_fatal (says es l) ≡ b
      → (b ≡ false → first (all_after (rule_events flags greatest refuses) (es ++ says es l ∷ []) ls) ≡ events_after (line_event (by flags greatest r)) (es ++ says es l ∷ []) ls)
      → first (all_after (rule_events flags greatest refuses) (es ++ says es l ∷ []) ls) ≡ events_after (line_event (by flags greatest r)) (es ++ says es l ∷ []) ls
  lines_case es l ls r false h f k = k refl
  lines_case es l ls r true h f k =
      let next = es ++ says es l ∷ [] in
      let refused : is_refused next ≡ true = refused-push es (says es l) h ∙ f in
      let last : EndsFatal next = record { before = es; last = says es l; split = refl; calm = h; fatal = f } in
      first_stays (rule_events flags greatest refuses) next ls refused ∙ last_first next last ∙ sym (events_after_refused (line_event (by flags greatest r)) next ls refused)

  lines_first : (a : ℕ) (es : List Event) (ls : List Piece) → is_refused es ≡ false → Rise a ls
      → first (all_after (rule_events flags greatest refuses) es ls) ≡ events_after (line_event (by flags greatest (place es ls))) es ls
  lines_first a es [] h rise = own_first es h
  lines_first a es (l ∷ ls) h rise =
      let e = says es l in
      let next = es ++ e ∷ [] in
      let later_place = place next ls in
      let r = place_of e later_place in
      let here : line_event (by flags greatest r) es l ≡ e = agrees es l later_place e refl (from_line (settings_at flags greatest refuses l.at) es l) (beyond (l.at + 1) next ls rise.1) in
      let same : is_fatal e ≡ false → first (all_after (rule_events flags greatest refuses) next ls) ≡ events_after (line_event (by flags greatest r)) next ls = λ f.
      lines_first (l.at + 1) next ls (refused-push es e h ∙ f) rise.1 ∙ ap (λ (x : Option ℕ). events_after (line_event (by flags greatest x)) next ls) (sym (passes_on e later_place f)) in
      let step : events_after (line_event (by flags greatest r)) es (l ∷ ls) ≡ events_after (line_event (by flags greatest r)) (es ++ line_event (by flags greatest r) es l ∷ []) ls = rw h refl in
      lines_case es l ls r (is_fatal e) h refl same
      ∙ ap (λ (x : Event). events_after (line_event (by flags greatest r)) (es ++ x ∷ []) ls) (sym here) ∙ sym step

  -- that place is what the faults up to there tell
  told_at : (es : List Event) (e : Event) (next : Option ℕ) → is_refused es ≡ false → is_fatal e ≡ true → refused_in (faults_after [] (es ++ e ∷ [])) ≡ place_of e next
  told_at es (Refused at p) next h f = pattern_refused es at p h
  told_at es (Fatal x) next h f = fatal_refused es x h
  told_at es (NewState s) next h f = cc
  told_at es (NewRule r) next h f = cc
  told_at es (Duplicate s o x) next h f = cc
  told_at es (Verbatim s) next h f = cc

  place_case : (es : List Event) (l : Piece) (ls : List Piece) (b : Bool) → is_refused es ≡ false → is_fatal (says es l) ≡ b
      → (b ≡ false → refused_in (faults_after [] (first (all_after (rule_events flags greatest refuses) (es ++ says es l ∷ []) ls))) ≡ place (es ++ says es l ∷ []) ls)
      → refused_in (faults_after [] (first (all_after (rule_events flags greatest refuses) (es ++ says es l ∷ []) ls))) ≡ place_of (says es l) (place (es ++ says es l ∷ []) ls)
  place_case es l ls false h f k = k refl ∙ sym (passes_on (says es l) (place (es ++ says es l ∷ []) ls) f)
  place_case es l ls true h f k =
      let next = es ++ says es l ∷ [] in
      let refused : is_refused next ≡ true = refused-push es (says es l) h ∙ f in
      let last : EndsFatal next = record { before = es; last = says es l; split = refl; calm = h; fatal = f } in
      ap (λ (xs : List Event). refused_in (faults_after [] xs)) (first_stays (rule_events flags greatest refuses) next ls refused ∙ last_first next last) ∙ told_at es (says es l) (place next ls) h f

  place_told : (es : List Event) (ls : List Piece) → is_refused es ≡ false → refused_in (faults_after [] (first (all_after (rule_events flags greatest refuses) es ls))) ≡ place es ls
  place_told es [] h = ap (λ (xs : List Event). refused_in (faults_after [] xs)) (own_first es h) ∙ none_refused es h
  place_told es (l ∷ ls) h = place_case es l ls (is_fatal (says es l)) h refl (λ f. place_told (es ++ says es l ∷ []) ls (refused-push es (says es l) h ∙ f))

-- ---- the text as a whole
abbrev unless_ended : List Event → Option Fault → List Event
unless_ended es f = if is_refused es then es else then_fault es f

end_case : (es : List Event) (b : Bool) → is_refused es ≡ b → (f : Option Fault) → first (then_fault es f) ≡ (if b then first es else then_fault es f)
end_case es true h None = refl
end_case es true h (Some f) = ended_first es (Fatal f ∷ []) h
end_case es false h None = own_first es h
end_case es false h (Some f) = calm_first es (Fatal f ∷ []) h

if_same : (b : Bool) (es : List Event) → es ≡ (if b then es else es)
if_same true es = refl
if_same false es = refl

routine_case : (w r : Bool) (es : List Event) (f : Fault) → (if w then es else (if r then es else es ++ Fatal f ∷ [])) ≡ (if r then es else then_fault es (if w then None else Some f))
routine_case true true es f = refl
routine_case true false es f = refl
routine_case false true es f = refl
routine_case false false es f = refl

routines_are : (text : List ℕ) (es : List Event) (end : Option Piece) → end_events text es end ≡ unless_ended es (routines_fault text end)
routines_are text es None = if_same (is_refused es) es
routines_are text es (Some mark) = routine_case (is_white (drop (mark.at + 2) text)) (is_refused es) es (fault_at RoutinesNotSupported mark.at)

rules_are : (s : Settings) (text : List ℕ) (declared : List Event) (mark : Option Piece) → rules_events s text declared mark ≡ unless_ended (events_after (line_event s) declared (lines_after (allows_comments s.flags) text mark)) (fault_after text mark)
rules_are s text declared None = refl
rules_are s text declared (Some mark) =
    let rest = rules_section text mark in
    routines_are text (events_after (line_event s) declared (section_lines (allows_comments s.flags) (cut_lines rest))) (section_end (cut_lines rest))

lines_rise : (comments : Bool) (text : List ℕ) (mark : Option Piece) → Rise 0 (lines_after comments text mark)
lines_rise comments text None = tt
lines_rise comments text (Some mark) =
    let rest = rules_section text mark in
    rise_weak rest.at 0 (section_lines comments (cut_lines rest)) (omega arith) (subst (λ (xs : List Piece). Rise rest.at (section_lines comments xs)) (as_written (cut_lines rest)) (section_rise comments rest))

-- the text's own fault is none of `regex`
abbrev NoRefusal : Option Fault → Type 0
NoRefusal None = Unit {0}
NoRefusal (Some f) = refused_in (f ∷ []) ≡ None

either_none : (b : Bool) (f : Fault) → refused_in (f ∷ []) ≡ None → NoRefusal (if b then None else Some f)
either_none true f h = tt
either_none false f h = h

routines_none : (text : List ℕ) (end : Option Piece) → NoRefusal (routines_fault text end)
routines_none text None = tt
routines_none text (Some mark) = either_none (is_white (drop (mark.at + 2) text)) (fault_at RoutinesNotSupported mark.at) refl

whole_none : (text : List ℕ) (mark : Option Piece) → NoRefusal (fault_after text mark)
whole_none text None = refl
whole_none text (Some mark) = routines_none text (section_end (cut_lines (rules_section text mark)))

calm_told : (es : List Event) (f : Option Fault) → is_refused es ≡ false → NoRefusal f → refused_in (faults_after [] (then_fault es f)) ≡ None
calm_told es None h n = none_refused es h
calm_told es (Some f) h n = fatal_refused es f h ∙ n

refused_first : (es : List Event) (b : Bool) → is_refused (first es) ≡ b → is_refused es ≡ true → is_refused (first es) ≡ true
refused_first es true h r = h
refused_first es false h r = let no : false ≡ true = sym h ∙ ap is_refused ((calm_all es h).0) ∙ r in cc

told_is : (flags : LexFlags) (es : List Event) (fs : List Fault) → faults_of (definition_or_faults flags es fs) ≡ fs
told_is flags es [] = refl
told_is flags es (f ∷ fs) = refl

module _ (flags : LexFlags) (greatest : ℕ) (refuses : ℕ → Bool) (text : List ℕ) where
  abbrev comments : Bool
  comments = allows_comments flags

  abbrev declared : List Event
  declared = all_after declaration_events (NewState initial ∷ []) (declared_lines comments text)

  abbrev ruled : List Event
  ruled = all_after (rule_events flags greatest refuses) declared (rule_lines comments text)

  abbrev all : List Event
  all = all_events flags greatest refuses text

  abbrev read_so : Option ℕ → List Event
  read_so r = events_of (settings flags greatest r) text

  as_declared : first declared ≡ events_after state_event (NewState initial ∷ []) (declarations comments text)
  as_declared = declared_first (NewState initial ∷ []) (declared_lines comments text) refl

  read_is : (r : Option ℕ) → read_so r ≡ unless_ended (events_after (line_event (by flags greatest r)) (first declared) (rule_lines comments text)) (text_fault text)
  read_is r =
      rules_are (settings flags greatest r) text (events_after state_event (NewState initial ∷ []) (declarations comments text)) (section_end (trimmed_lines text))
      ∙ ap (λ (es : List Event). unless_ended (events_after (line_event (by flags greatest r)) es (rule_lines comments text)) (text_fault text)) (sym as_declared)

  -- the declarations end the reading
  after_declared : is_refused declared ≡ true → (r : Option ℕ) → read_so r ≡ first all
  after_declared h r =
      let ended : is_refused (first declared) ≡ true = refused_first declared (is_refused (first declared)) refl h in
      let stops : unless_ended (first declared) (text_fault text) ≡ first declared = rw ended refl in
      read_is r ∙ ap (λ (es : List Event). unless_ended es (text_fault text)) (events_after_refused (line_event (by flags greatest r)) (first declared) (rule_lines comments text) ended) ∙ stops
      ∙ sym (end_case ruled true (still_refused (rule_events flags greatest refuses) declared (rule_lines comments text) h) (text_fault text) ∙ first_stays (rule_events flags greatest refuses) declared (rule_lines comments text) h)

  module _ (calm : is_refused declared ≡ false) where
    abbrev spot : Option ℕ
    spot = place flags greatest refuses declared (rule_lines comments text)

    as_ruled : events_after (line_event (by flags greatest spot)) (first declared) (rule_lines comments text) ≡ first ruled
    as_ruled =
        ap (λ (es : List Event). events_after (line_event (by flags greatest spot)) es (rule_lines comments text)) (own_first declared calm)
        ∙ sym (lines_first flags greatest refuses 0 declared (rule_lines comments text) calm (lines_rise comments text (section_end (trimmed_lines text))))

    spot_is : refused_in (faults_after [] (first ruled)) ≡ spot
    spot_is = place_told flags greatest refuses declared (rule_lines comments text) calm

    -- a rule line ends the reading
    after_rule : is_refused ruled ≡ true → read_so (refused_in (faults_after [] (first all))) ≡ first all
    after_rule h =
        let same : first all ≡ first ruled = end_case ruled true h (text_fault text) in
        let ended : is_refused (first ruled) ≡ true = refused_first ruled (is_refused (first ruled)) refl h in
        let stops : unless_ended (first ruled) (text_fault text) ≡ first ruled = rw ended refl in
        ap read_so (ap (λ (es : List Event). refused_in (faults_after [] es)) same ∙ spot_is) ∙ read_is spot
        ∙ ap (λ (es : List Event). unless_ended es (text_fault text)) as_ruled ∙ stops ∙ sym same

    -- the text ends it, or nothing
    after_text : is_refused ruled ≡ false → read_so (refused_in (faults_after [] (first all))) ≡ first all
    after_text h =
        let same : first all ≡ then_fault ruled (text_fault text) = end_case ruled false h (text_fault text) in
        let none : refused_in (faults_after [] (first all)) ≡ spot =
        ap (λ (es : List Event). refused_in (faults_after [] es)) same ∙ calm_told ruled (text_fault text) h (whole_none text (section_end (trimmed_lines text)))
        ∙ sym (ap (λ (es : List Event). refused_in (faults_after [] es)) (own_first ruled h) ∙ none_refused ruled h) ∙ spot_is in
        let goes : unless_ended ruled (text_fault text) ≡ then_fault ruled (text_fault text) = rw h refl in
        ap read_so none ∙ read_is spot ∙ ap (λ (es : List Event). unless_ended es (text_fault text)) (as_ruled ∙ own_first ruled h) ∙ goes ∙ sym same

    after_declared_calm : (b : Bool) → is_refused ruled ≡ b → read_so (refused_in (faults_after [] (first all))) ≡ first all
    after_declared_calm true h = after_rule h
    after_declared_calm false h = after_text h

  as_read : (b : Bool) → is_refused declared ≡ b → read_so (refused_in (faults_after [] (first all))) ≡ first all
  as_read true h = after_declared h (refused_in (faults_after [] (first all)))
  as_read false h = after_declared_calm h (is_refused ruled) refl

  pub begin_as_read : BeginAsRead flags greatest text (all_faults flags greatest refuses text)
  begin_as_read =
      let read = faults_after [] (first all) in
      let s = settings flags greatest (refused_in read) in
      let is : events_of s text ≡ first all = as_read (is_refused declared) refl in
      record {
        read = read;
        more = flat_map (faults_after []) (later all);
        is_read = told_is flags (events_of s text) (faults_after [] (events_of s text)) ∙ ap (faults_after []) is;
        begins = sym (faults_first all);
        same = λ h. ap (flat_map (faults_after [])) ((calm_all all (sym (ap is_refused is) ∙ h)).1);
      }
