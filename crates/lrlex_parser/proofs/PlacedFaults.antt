-- Where a rule text is refused, each fault names places that are in the text.
use Rattle.std.proofs.Common.{◌≡◌, ℕ, ◌+◌, ◌-◌, ◌<◌, ◌≤◌, Bool, true, false, List, [], ◌∷◌, ◌++◌, length, get_or, take, drop, map, Option, Some, None, Result, Ok, Err, ⊎_elim, refl, sym, ap, subst, ◌∙◌, arith}
use Rattle.std.specs.Prelude.{if◌then◌else◌, not, ◌&&◌, ◌||◌, ◌==◌, nat_lt, is_some, All, codes, IfSome}
use Rattle.std.specs.Option.{option_map, option_map_or, ok_or}
use Rattle.std.specs.Str.{byte, IsUtf8, IsCharBoundary}
use Rattle.std.specs.List.{list_any, find, filter_map, flat_map, cons_option, prefix_len, position_or_len, before_last, after_last}
use Rattle.std.specs.Cmp.{first_so, second_so}
use Rattle.std.proofs.lemmas.Bool.{cases_lt, eqb-true, ltb-true}
use Rattle.std.proofs.lemmas.List.{length-take-le, length-drop, length-map, drop_all, drop-drop}
use Rattle.std.proofs.lemmas.List.Elements.{All-nil, All-cons, All-head, All-tail, All-map, All-append, All-push, All-filter, All-take, All-weaker}
use Rattle.std.proofs.lemmas.List.Sums.{prefix_len-le-length, passes_at_first}
use Rattle.std.proofs.lemmas.Str.{IsUtf8-drop, IsCharBoundary-start, IsCharBoundary-end, IsCharBoundary-after_ascii, IsCharBoundary-before_ascii, IsCharBoundary-from_drop}
use Rattle.lrlex_base.specs.Spans.{Span, span, at_place, same_span, as_span, Fits}
use Rattle.lrlex_base.specs.declared.spans.Span.{Span as TheSpan}
use Rattle.lrlex_base.specs.Classes.{is_white_space, is_line_sep, is_blank}
use Rattle.lrlex_parser.specs.declared.faults.LexBuildError.{LexBuildError}
use Rattle.lrlex_rules.specs.declared.flags.LexFlags.{LexFlags}
use Rattle.lrlex_rules.specs.declared.states.StartStateOperation.{StartStateOperation}
use Rattle.lrlex_rules.specs.Flags.{has_posix_escapes, allows_comments, config_of}
use Rattle.lrlex_rules.specs.Definition.{StartState, Rule, Definition}
use Rattle.lrlex_parser.specs.Text.{Piece, piece, cut, cut_lines, trim, trim_end, begins_with, same_text, is_empty, is_white}
use Rattle.lrlex_parser.specs.Event.{span_of, FaultKind, Fault, fault, fault_at, ◌>>=◌, Subject, Event, new_state, new_rule, states_of, rules_of, is_refused}
use Rattle.lrlex_parser.specs.Event.FaultKind.{UnknownDeclaration, InvalidStartStateName, InvalidName, UnknownStartState, InvalidStartState, MissingSpace, TooManyRules, RegexError, VerbatimNotSupported, PrematureEnd, RoutinesNotSupported}
use Rattle.lrlex_parser.specs.Event.Event.{NewState, NewRule, Duplicate, Verbatim, Refused, Fatal}
use Rattle.lrlex_parser.specs.Declaration.{Declared, ends_section, is_skipped, section_lines, section_end, declares_exclusive, first_word, is_state_name, declared_name, declared_names, declared_by, trimmed_lines, declarations, initial, state_named, new_or_duplicate, state_event}
use Rattle.lrlex_parser.specs.Declaration.Declared.{Name, Wrong}
use Rattle.lrlex_parser.specs.Escape.{trim_head, unescape}
use Rattle.lrlex_parser.specs.RuleLine.{is_greater, in_angles, after_angles, target, target_name, operation_of, state_id, target_of, name_part, is_unnamed, is_quoted_by, is_quoted, RuleLabel, label_of, LineParts, parts_of_word, split, Pattern, listed_ids, listed_names, read_pattern}
use Rattle.lrlex_parser.specs.Outcome.{Settings, events_after, then_fatal, has_name, rule_with_name, rule_event, pattern_event, parts_event, split_event, is_verbatim, line_event, rules_section, end_events, rules_events, events_of, same_subject, duplicate_of, kind_of, fault_of, faults_after, definition_or_faults, outcome}
use Rattle.lrlex_parser.specs.LexBuildError.{IsPlaced}
use Rattle.lrlex_parser.specs.LexParser.{as_fault}
use Rattle.lrlex_parser.proofs.Angles.{quoted_start}
use Rattle.lrlex_parser.proofs.Blanks.{blank_low}
use Rattle.lrlex_parser.proofs.Marks.{percent}
use Rattle.lrlex_parser.proofs.Placed.{IsPiece, inside, starts, ends, suffix, whole_text, cut_pieces, trimmed_end, trimmed, past_word, last_at, past_blanks}

-- ---- lists and options
pub either : {A : Type 0} (P : A → Type 0) (b : Bool) (x y : A) → P x → P y → P (if b then x else y)
either P true x y h k = h
either P false x y h k = k

cons_case : {Y : Type 0} (Q : Y → Type 0) (o : Option Y) (ys : List Y) → IfSome o Q → All Q ys → All Q (cons_option o ys)
cons_case Q None ys h k = k
cons_case Q (Some y) ys h k = All-cons Q y ys h k

all_filter_map : {X Y : Type 0} (P : X → Type 0) (Q : Y → Type 0) (h : X → Option Y) → ((x : X) → P x → IfSome (h x) Q) → (xs : List X) → All P xs → All Q (filter_map h xs)
all_filter_map P Q h f [] a = All-nil Q
all_filter_map P Q h f (x ∷ xs) a = cons_case Q (h x) (filter_map h xs) (f x (All-head P x xs a)) (all_filter_map P Q h f xs (All-tail P x xs a))

find_case : {X : Type 0} (P : X → Type 0) (p : X → Bool) (x : X) (o : Option X) (b : Bool) → p x ≡ b → P x → IfSome o (λ y. P y × (p y ≡ true)) → IfSome (if b then Some x else o) (λ y. P y × (p y ≡ true))
find_case P p x o true e h k = (h, e)
find_case P p x o false e h k = k

found : {X : Type 0} (P : X → Type 0) (p : X → Bool) (xs : List X) → All P xs → IfSome (find p xs) (λ y. P y × (p y ≡ true))
found P p [] a = tt
found P p (x ∷ xs) a = find_case P p x (find p xs) (p x) refl (All-head P x xs a) (found P p xs (All-tail P x xs a))

only_first : {X : Type 0} (P : X → Type 0) (p : X → Bool) (o : Option X) → IfSome o (λ y. P y × (p y ≡ true)) → IfSome o P
only_first P p None h = tt
only_first P p (Some x) h = h.0

pub all_flat_map : {X Y : Type 0} (P : X → Type 0) (Q : Y → Type 0) (f : X → List Y) → ((x : X) → P x → All Q (f x)) → (xs : List X) → All P xs → All Q (flat_map f xs)
all_flat_map P Q f h [] a = All-nil Q
all_flat_map P Q f h (x ∷ xs) a = All-append Q (f x) (flat_map f xs) (h x (All-head P x xs a)) (all_flat_map P Q f h xs (All-tail P x xs a))

-- ---- what names places in the text
abbrev pub SpanFits : List ℕ → Span → Type 0
SpanFits text s = IsCharBoundary text s.start × IsCharBoundary text s.end

pub record FaultFits (text : List ℕ) (f : Fault) : Type 0 where
  pub some : 0 < length f.spans
  pub fit : All (SpanFits text) f.spans

abbrev pub DeclaredFits : List ℕ → Declared → Type 0
DeclaredFits text (Name exclusive name) = IsPiece text name
DeclaredFits text (Wrong f) = FaultFits text f

abbrev pub EventFits : List ℕ → Event → Type 0
EventFits text (NewState s) = SpanFits text s.name_span
EventFits text (NewRule r) = SpanFits text r.name_span
EventFits text (Duplicate subject original found) = SpanFits text original × SpanFits text found
EventFits text (Verbatim s) = SpanFits text s
EventFits text (Refused at pattern) = IsCharBoundary text at
EventFits text (Fatal f) = FaultFits text f

pub fits_at : (text : List ℕ) (kind : FaultKind) (o : ℕ) → IsCharBoundary text o → FaultFits text (fault_at kind o)
fits_at text kind o b = record { some = omega arith; fit = All-cons (SpanFits text) (at_place o) [] (b, b) (All-nil (SpanFits text)) }

piece_span : (text : List ℕ) (x : Piece) → IsPiece text x → SpanFits text (span_of x)
piece_span text x p = (starts text x p, ends text x p)

-- ---- declarations
name_declared : (text : List ℕ) (exclusive : Bool) (name : Piece) → IsPiece text name → DeclaredFits text (declared_name exclusive name)
name_declared text exclusive name p = either (DeclaredFits text) (is_state_name name.text) (Name exclusive name) (Wrong (fault_at InvalidStartStateName name.at)) p (fits_at text InvalidStartStateName name.at (starts text name p))

unknown : (text : List ℕ) (line : Piece) → IsPiece text line → All (DeclaredFits text) (Wrong (fault_at UnknownDeclaration line.at) ∷ [])
unknown text line p = All-cons (DeclaredFits text) (Wrong (fault_at UnknownDeclaration line.at)) [] (fits_at text UnknownDeclaration line.at (starts text line p)) (All-nil (DeclaredFits text))

names_declared : (text : List ℕ) (line : Piece) (o : Option Bool) (parameters : Piece) → IsPiece text line → IsPiece text parameters → All (DeclaredFits text) (declared_names line o parameters)
names_declared text line None parameters p q = unknown text line p
names_declared text line (Some exclusive) parameters p q =
    either (All (DeclaredFits text)) (is_empty parameters.text) (Wrong (fault_at UnknownDeclaration line.at) ∷ []) (map (declared_name exclusive) (cut is_white_space parameters)) (unknown text line p)
    (All-map (DeclaredFits text) (declared_name exclusive) (cut is_white_space parameters) (All-weaker (IsPiece text) (λ x. DeclaredFits text (declared_name exclusive x)) (name_declared text exclusive) (cut is_white_space parameters) (cut_pieces is_white_space text parameters q)))

pub line_declared : (text : List ℕ) (line : Piece) → IsPiece text line → All (DeclaredFits text) (declared_by line)
line_declared text line p =
    let word = first_word line.text in
    let rest = piece (line.at + length word) (drop (length word) line.text) in
    names_declared text line (declares_exclusive word) (trim rest) p (trimmed text rest (past_word text line p))

pub section_pieces : (text : List ℕ) (comments : Bool) (ls : List Piece) → All (IsPiece text) ls → All (IsPiece text) (section_lines comments ls)
section_pieces text comments ls a =
    let n = prefix_len (λ (line : Piece). not (ends_section line.text)) ls in
    All-filter (λ (line : Piece). not (is_skipped comments line.text)) (IsPiece text) (take n ls) (All-take (IsPiece text) n ls a)

pub trimmed_pieces : (text : List ℕ) → IsUtf8 text → All (IsPiece text) (trimmed_lines text)
trimmed_pieces text u =
    let ls = cut_lines (piece 0 text) in
    All-map (IsPiece text) trim ls (All-weaker (IsPiece text) (λ x. IsPiece text (trim x)) (trimmed text) ls (cut_pieces is_line_sep text (piece 0 text) (whole_text text u)))

pub all_declared : (text : List ℕ) (comments : Bool) → IsUtf8 text → All (DeclaredFits text) (declarations comments text)
all_declared text comments u =
    all_flat_map (IsPiece text) (DeclaredFits text) declared_by (line_declared text) (section_lines comments (trimmed_lines text)) (section_pieces text comments (trimmed_lines text) (trimmed_pieces text u))

-- ---- events
abbrev StateFits : List ℕ → StartState → Type 0
StateFits text s = SpanFits text s.name_span

abbrev RuleFits : List ℕ → Rule → Type 0
RuleFits text r = SpanFits text r.name_span

state_of_event : (text : List ℕ) (e : Event) → EventFits text e → IfSome (new_state e) (StateFits text)
state_of_event text (NewState s) h = h
state_of_event text (NewRule r) h = tt
state_of_event text (Duplicate s o f) h = tt
state_of_event text (Verbatim s) h = tt
state_of_event text (Refused at pattern) h = tt
state_of_event text (Fatal f) h = tt

rule_of_event : (text : List ℕ) (e : Event) → EventFits text e → IfSome (new_rule e) (RuleFits text)
rule_of_event text (NewState s) h = tt
rule_of_event text (NewRule r) h = h
rule_of_event text (Duplicate s o f) h = tt
rule_of_event text (Verbatim s) h = tt
rule_of_event text (Refused at pattern) h = tt
rule_of_event text (Fatal f) h = tt

states_fit : (text : List ℕ) (events : List Event) → All (EventFits text) events → All (StateFits text) (states_of events)
states_fit text events a = all_filter_map (EventFits text) (StateFits text) new_state (state_of_event text) events a

rules_fit : (text : List ℕ) (events : List Event) → All (EventFits text) events → All (RuleFits text) (rules_of events)
rules_fit text events a = all_filter_map (EventFits text) (RuleFits text) new_rule (rule_of_event text) events a

state_new : (text : List ℕ) (states : List StartState) (exclusive : Bool) (name : Piece) (o : Option StartState) → IsPiece text name → IfSome o (StateFits text) → EventFits text (new_or_duplicate states exclusive name o)
state_new text states exclusive name None p h = piece_span text name p
state_new text states exclusive name (Some original) p h = (h, piece_span text name p)

pub state_fits : (text : List ℕ) (earlier : List Event) (d : Declared) → All (EventFits text) earlier → DeclaredFits text d → EventFits text (state_event earlier d)
state_fits text earlier (Wrong f) a h = h
state_fits text earlier (Name exclusive name) a h =
    let states = states_of earlier in
    let test : StartState → Bool = λ s. same_text s.name name.text in
    state_new text states exclusive name (state_named name.text states) h (only_first (StateFits text) test (find test states) (found (StateFits text) test states (states_fit text earlier a)))

module _ {X : Type 0} (text : List ℕ) (event : List Event → X → Event) (P : X → Type 0) (step : (earlier : List Event) (x : X) → All (EventFits text) earlier → P x → EventFits text (event earlier x)) where
  after_fits : (earlier : List Event) (xs : List X) → All (EventFits text) earlier → All P xs → All (EventFits text) (events_after event earlier xs)
  after_fits earlier [] a h = a
  after_fits earlier (x ∷ xs) a h =
      let more = earlier ++ event earlier x ∷ [] in
      either (All (EventFits text)) (is_refused earlier) earlier (events_after event more xs) a
      (after_fits more xs (All-push (EventFits text) earlier (event earlier x) a (step earlier x a (All-head P x xs h))) (All-tail P x xs h))

fatal_fits : (text : List ℕ) (events : List Event) (kind : FaultKind) (o : ℕ) → All (EventFits text) events → IsCharBoundary text o → All (EventFits text) (then_fatal events kind o)
fatal_fits text events kind o a b =
    either (All (EventFits text)) (is_refused events) events (events ++ Fatal (fault_at kind o) ∷ []) a (All-push (EventFits text) events (Fatal (fault_at kind o)) a (fits_at text kind o b))

-- ---- rule lines
abbrev ErrFits : {A : Type 0} → List ℕ → Result A Fault → Type 0
ErrFits text (Ok x) = Unit {0}
ErrFits text (Err f) = FaultFits text f

abbrev LabelFits : List ℕ → Result RuleLabel Fault → Type 0
LabelFits text (Ok l) = SpanFits text l.span
LabelFits text (Err f) = FaultFits text f

abbrev PartsFit : List ℕ → Result LineParts Fault → Type 0
PartsFit text (Ok p) = SpanFits text p.label.span
PartsFit text (Err f) = FaultFits text f

or_err : {A : Type 0} (text : List ℕ) (o : Option A) (f : Fault) → FaultFits text f → ErrFits text (ok_or o f)
or_err text None f h = h
or_err text (Some x) f h = tt

some_err : (text : List ℕ) (r : Result (ℕ × StartStateOperation) Fault) → ErrFits text r → ErrFits text (r >>= (λ t. Ok (Some t)))
some_err text (Ok x) h = tt
some_err text (Err f) h = h

target_fits : (text : List ℕ) (states : List StartState) (blank : ℕ) (word : List ℕ) → IsCharBoundary text blank → IsCharBoundary text (blank + 1) → ErrFits text (target_of states blank word)
target_fits text states blank word b c =
    let inner = in_angles word in
    either (ErrFits text) (not (begins_with (codes "<") word)) (Ok None) (if list_any is_greater word then (target states blank (in_angles word) >>= (λ t. Ok (Some t))) else Err (fault_at InvalidStartState blank)) tt
    (either (ErrFits text) (list_any is_greater word) (target states blank (in_angles word) >>= (λ t. Ok (Some t))) (Err (fault_at InvalidStartState blank))
    (some_err text (target states blank inner) (or_err text (option_map (λ (id : ℕ). (id, operation_of inner)) (state_id states (target_name inner))) (fault_at UnknownStartState (blank + 1)) (fits_at text UnknownStartState (blank + 1) c)))
    (fits_at text InvalidStartState blank b))

-- the part of a word that ends where the word does
pub record EndsWord (text : List ℕ) (o : ℕ) (word part : List ℕ) : Type 0 where
  pub short : length part ≤ length word
  pub stands : IsPiece text (piece (o + length word - length part) part)

greater_low : (c : ℕ) → is_greater c ≡ true → c < 128
greater_low c h = let is = eqb-true c 62 h in omega arith

behind_angles : (text : List ℕ) (o : ℕ) (word : List ℕ) → IsPiece text (piece o word) → EndsWord text o word (after_angles word)
behind_angles text o word p =
    let k = position_or_len is_greater word in
    let le : k ≤ length word = prefix_len-le-length (λ x. not (is_greater x)) word in
    let size = length-drop (k + 1) word in
    ⊎_elim (λ (lt : k < length word).
    let low = greater_low (get_or word k 0) (passes_at_first is_greater word 0 lt) in
    let b : IsCharBoundary word (k + 1) = IsCharBoundary-after_ascii word k p.stands.own lt low in
    let r : EndsWord text o word (after_angles word) = record { short = omega arith; stands = suffix text (piece o word) (k + 1) (o + length word - length (after_angles word)) (after_angles word) p b (omega arith) refl } in
    r) (λ (ge : length word ≤ k).
    let none : after_angles word ≡ drop (length word) word = drop_all (k + 1) word (omega arith) ∙ sym (drop_all (length word) word (omega arith)) in
    let r : EndsWord text o word (after_angles word) = record { short = omega arith; stands = suffix text (piece o word) (length word) (o + length word - length (after_angles word)) (after_angles word) p (IsCharBoundary-end word) (omega arith) none } in
    r) (cases_lt k (length word))

pub name_stands : (text : List ℕ) (o : ℕ) (word : List ℕ) → IsPiece text (piece o word) → EndsWord text o word (name_part word)
name_stands text o word p =
    let own : EndsWord text o word word = record { short = omega arith; stands = suffix text (piece o word) 0 (o + length word - length word) word p (IsCharBoundary-start word p.stands.own) (omega arith) refl } in
    either (EndsWord text o word) (begins_with (codes "<") word) (after_angles word) word (behind_angles text o word p) own

pub either_quote : (a b : Bool) → (a || b) ≡ true → (A : Type 0) → (a ≡ true → A) → (b ≡ true → A) → A
either_quote true b e A h k = h refl
either_quote false b e A h k = k e

quoted_span : (text : List ℕ) (o quote : ℕ) (word part : List ℕ) → quote < 128 → EndsWord text o word part → is_quoted_by quote part ≡ true → SpanFits text (span (o + length word - length part + 1) (o + length word - 1))
quoted_span text o quote word part low w h =
    let stands = w.stands in
    let short = w.short in
    let u : IsUtf8 part = stands.stands.own in
    let more : 2 < length part = ltb-true 2 (length part) (first_so _ _ h) in
    let k = length part - 1 in
    let lt : k < length part = omega arith in
    let place : o + length word - 1 ≡ (o + length word - length part) + k = omega arith in
    let last : get_or part k 0 ≡ quote = eqb-true (get_or part k 0) quote (second_so _ _ (second_so _ _ h)) in
    let ends_low : get_or part k 0 < 128 = subst (λ (c : ℕ). c < 128) (sym last) low in
    let x = piece (o + length word - length part) part in
    (inside text x 1 (o + length word - length part + 1) stands (quoted_start part quote low u h) refl, inside text x k (o + length word - 1) stands (IsCharBoundary-before_ascii part k lt ends_low) place)

quoted_fits : (text : List ℕ) (o : ℕ) (word part : List ℕ) → EndsWord text o word part → is_quoted part ≡ true → SpanFits text (span (o + length word - length part + 1) (o + length word - 1))
quoted_fits text o word part w h =
    either_quote (is_quoted_by (byte "'") part) (is_quoted_by (byte "\"") part) h (SpanFits text (span (o + length word - length part + 1) (o + length word - 1)))
    (quoted_span text o (byte "'") word part (omega arith) w) (quoted_span text o (byte "\"") word part (omega arith) w)

quoted_case : (text : List ℕ) (o : ℕ) (word part name : List ℕ) (f : Fault) (b : Bool) → is_quoted part ≡ b → EndsWord text o word part → FaultFits text f
    → LabelFits text (if b then Ok (record { name = Some name; span = span (o + length word - length part + 1) (o + length word - 1) }) else Err f)
quoted_case text o word part name f true e w h = quoted_fits text o word part w e
quoted_case text o word part name f false e w h = h

label_fits : (text : List ℕ) (blank : ℕ) (word : List ℕ) → IsPiece text (piece (blank + 1) word) → LabelFits text (label_of blank word)
label_fits text blank word p =
    let b = starts text (piece (blank + 1) word) p in
    let part = name_part word in
    let name = take (length part - 2) (drop 1 part) in
    let end = blank + 1 + length word in
    either (LabelFits text) (is_unnamed part) (Ok (record { name = None; span = at_place (blank + 1) }))
    (if is_quoted part then Ok (record { name = Some name; span = span (end - length part + 1) (end - 1) }) else Err (fault_at InvalidName (blank + 1))) (b, b)
    (quoted_case text (blank + 1) word part name (fault_at InvalidName (blank + 1)) (is_quoted part) refl (name_stands text (blank + 1) word p) (fits_at text InvalidName (blank + 1) b))

with_label : (text head : List ℕ) (t : Option (ℕ × StartStateOperation)) (r : Result RuleLabel Fault) → LabelFits text r → PartsFit text (r >>= (λ label. Ok (record { head = head; target = t; label = label })))
with_label text head t (Ok l) h = h
with_label text head t (Err f) h = h

with_target : (text head : List ℕ) (r : Result (Option (ℕ × StartStateOperation)) Fault) (l : Result RuleLabel Fault) → ErrFits text r → LabelFits text l → PartsFit text (r >>= (λ target. l >>= (λ label. Ok (record { head = head; target = target; label = label }))))
with_target text head (Ok t) l h k = with_label text head t l k
with_target text head (Err f) l h k = h

word_fits : (text : List ℕ) (states : List StartState) (head : List ℕ) (blank : ℕ) (word : List ℕ) → IsCharBoundary text blank → IsPiece text (piece (blank + 1) word) → PartsFit text (parts_of_word states head blank word)
word_fits text states head blank word b p =
    with_target text head (target_of states blank word) (label_of blank word) (target_fits text states blank word b (starts text (piece (blank + 1) word) p)) (label_fits text blank word p)

split_case : (text : List ℕ) (states : List StartState) (o : ℕ) (t : List ℕ) (b : Bool) → list_any is_blank t ≡ b → IsPiece text (piece o t)
    → PartsFit text (if b then parts_of_word states (before_last is_blank t) (o + length (before_last is_blank t)) (after_last is_blank t) else Err (fault_at MissingSpace o))
split_case text states o t false e p = fits_at text MissingSpace o (starts text (piece o t) p)
split_case text states o t true e p =
    let at = last_at is_blank t e in
    let u : IsUtf8 t = p.stands.own in
    let lt = at.lt in
    let low : get_or t at.n 0 < 128 = blank_low (get_or t at.n 0) at.passes in
    let size : length (before_last is_blank t) ≡ at.n = ap (length {A = ℕ}) at.front ∙ length-take-le at.n t (omega arith) in
    let blank = o + length (before_last is_blank t) in
    word_fits text states (before_last is_blank t) blank (after_last is_blank t) (inside text (piece o t) at.n blank p (IsCharBoundary-before_ascii t at.n lt low) (omega arith))
    (suffix text (piece o t) (at.n + 1) (blank + 1) (after_last is_blank t) p (IsCharBoundary-after_ascii t at.n u lt low) (omega arith) at.back)

split_fits : (text : List ℕ) (states : List StartState) (line : Piece) → IsPiece text line → PartsFit text (split states line)
split_fits text states line p = split_case text states line.at (trim_end line.text) (list_any is_blank (trim_end line.text)) refl (trimmed_end text line p)

pattern_fits : (text : List ℕ) (posix : Bool) (states : List StartState) (o : ℕ) (head : List ℕ) → IsCharBoundary text o → ErrFits text (read_pattern posix states o head)
pattern_fits text posix states o head b =
    let ids = listed_ids states (listed_names (in_angles head)) in
    let made : Option Pattern = option_map (λ (ids : List ℕ). record { start_states = ids; text = after_angles head }) ids in
    let inner : Result Pattern Fault = if list_any is_greater head then ok_or made (fault_at UnknownStartState o) else Err (fault_at InvalidStartState o) in
    let inner_fits : ErrFits text inner = either (ErrFits text) (list_any is_greater head) (ok_or made (fault_at UnknownStartState o)) (Err (fault_at InvalidStartState o))
    (or_err text made (fault_at UnknownStartState o) (fits_at text UnknownStartState o b)) (fits_at text InvalidStartState o b) in
    either (ErrFits text) (not (begins_with (codes "<") head)) (Ok (record { start_states = []; text = unescape posix head })) inner tt inner_fits

-- ---- the events of a rule line
named_fits : (text : List ℕ) (rules : List Rule) (name : Option (List ℕ)) → All (RuleFits text) rules → IfSome (rule_with_name rules name) (RuleFits text)
named_fits text rules None a = tt
named_fits text rules (Some n) a = only_first (RuleFits text) (has_name n) (find (has_name n) rules) (found (RuleFits text) (has_name n) rules a)

module _ (text : List ℕ) (s : Settings) (o : ℕ) (b : IsCharBoundary text o) where
  rule_event_fits : (rules : List Rule) (parts : LineParts) (pattern : Pattern) → SpanFits text parts.label.span → EventFits text (rule_event s rules o parts pattern)
  rule_event_fits rules parts pattern h =
      let made : Event = NewRule (record {
        id = Some (length rules);
        name = parts.label.name;
        name_span = parts.label.span;
        re_str = pattern.text;
        start_states = pattern.start_states;
        target = parts.target;
        config = config_of s.flags;
      }) in
      let is_refused_here = option_map_or (λ (x : ℕ). x == o) s.refused false in
      either (EventFits text) (nat_lt s.greatest_id (length rules)) (Fatal (fault_at TooManyRules o)) (if is_refused_here then Refused o pattern.text else made) (fits_at text TooManyRules o b)
      (either (EventFits text) is_refused_here (Refused o pattern.text) made b h)

  pattern_event_fits : (rules : List Rule) (parts : LineParts) (r : Result Pattern Fault) → SpanFits text parts.label.span → ErrFits text r → EventFits text (pattern_event s rules o parts r)
  pattern_event_fits rules parts (Ok pattern) h k = rule_event_fits rules parts pattern h
  pattern_event_fits rules parts (Err f) h k = k

  parts_event_fits : (earlier : List Event) (parts : LineParts) (original : Option Rule) → SpanFits text parts.label.span → IfSome original (RuleFits text) → EventFits text (parts_event s earlier o parts original)
  parts_event_fits earlier parts (Some original) h k = (k, h)
  parts_event_fits earlier parts None h k =
      let r = read_pattern (has_posix_escapes s.flags) (states_of earlier) o (trim_head parts.head) in
      pattern_event_fits (rules_of earlier) parts r h (pattern_fits text (has_posix_escapes s.flags) (states_of earlier) o (trim_head parts.head) b)

  split_event_fits : (earlier : List Event) (r : Result LineParts Fault) → All (EventFits text) earlier → PartsFit text r → EventFits text (split_event s earlier o r)
  split_event_fits earlier (Err f) a h = h
  split_event_fits earlier (Ok parts) a h = parts_event_fits earlier parts (rule_with_name (rules_of earlier) parts.label.name) h (named_fits text (rules_of earlier) parts.label.name (rules_fit text earlier a))

pub line_fits : (text : List ℕ) (s : Settings) (earlier : List Event) (line : Piece) → All (EventFits text) earlier → IsPiece text line → EventFits text (line_event s earlier line)
line_fits text s earlier line a p =
    let r = split (states_of earlier) line in
    either (EventFits text) (is_verbatim line) (Verbatim (span_of line)) (split_event s earlier line.at r) (piece_span text line p)
    (split_event_fits text s line.at (starts text line p) earlier r a (split_fits text (states_of earlier) line p))

-- ---- sections
behind_mark : (text : List ℕ) (mark : Piece) → IsUtf8 text → IsPiece text mark → ends_section mark.text ≡ true → IsCharBoundary text (mark.at + 2)
behind_mark text mark u p h =
    let is = percent mark.text h in
    let long : 1 < length mark.text = is.0 in
    let second : get_or mark.text 1 0 ≡ 37 = is.1 in
    inside text mark 2 (mark.at + 2) p (IsCharBoundary-after_ascii mark.text 1 p.stands.own long (omega arith)) refl

pub section_fits : (text : List ℕ) (mark : Piece) → IsUtf8 text → IsPiece text mark → ends_section mark.text ≡ true → IsPiece text (rules_section text mark)
section_fits text mark u p h =
    let o = mark.at + 2 in
    let b = behind_mark text mark u p h in
    let rest = drop o text in
    let n = prefix_len is_blank rest in
    let ur : IsUtf8 rest = IsUtf8-drop text o u b in
    let le : n ≤ length rest = prefix_len-le-length is_blank rest in
    let short = b.0 in
    let size = length-drop o text in
    let here : IsUtf8 (drop (o + n) text) = subst IsUtf8 (drop-drop n o text) (past_blanks rest ur) in
    suffix text (piece 0 text) (o + n) (o + n) (drop (o + n) text) (whole_text text u) (IsCharBoundary-from_drop text (o + n) (omega arith) here) (omega arith) refl

abbrev pub MarkFits : List ℕ → Option Piece → Type 0
MarkFits text o = IfSome o (λ mark. IsPiece text mark × (ends_section mark.text ≡ true))

pub mark_fits : (text : List ℕ) (ls : List Piece) → All (IsPiece text) ls → MarkFits text (section_end ls)
mark_fits text ls a = found (IsPiece text) (λ line. ends_section line.text) ls a

end_fits : (text : List ℕ) (events : List Event) (o : Option Piece) → All (EventFits text) events → MarkFits text o → All (EventFits text) (end_events text events o)
end_fits text events None a h = a
end_fits text events (Some mark) a h =
    either (All (EventFits text)) (is_white (drop (mark.at + 2) text)) events (then_fatal events RoutinesNotSupported mark.at) a (fatal_fits text events RoutinesNotSupported mark.at a (starts text mark h.0))

rules_fits : (text : List ℕ) (s : Settings) (declared : List Event) (o : Option Piece) → IsUtf8 text → All (EventFits text) declared → MarkFits text o → All (EventFits text) (rules_events s text declared o)
rules_fits text s declared None u a h = fatal_fits text declared PrematureEnd (length text) a (IsCharBoundary-end text)
rules_fits text s declared (Some mark) u a h =
    let rest = rules_section text mark in
    let ls = cut_lines rest in
    let pieces = cut_pieces is_line_sep text rest (section_fits text mark u h.0 h.1) in
    let said = section_lines (allows_comments s.flags) ls in
    end_fits text (events_after (line_event s) declared said) (section_end ls)
    (after_fits text (line_event s) (IsPiece text) (line_fits text s) declared said a (section_pieces text (allows_comments s.flags) ls pieces)) (mark_fits text ls pieces)

events_fit : (s : Settings) (text : List ℕ) → IsUtf8 text → All (EventFits text) (events_of s text)
events_fit s text u =
    let start = IsCharBoundary-start text u in
    let first = NewState initial ∷ [] in
    let first_fits : All (EventFits text) first = All-cons (EventFits text) (NewState initial) [] (start, start) (All-nil (EventFits text)) in
    let said = declarations (allows_comments s.flags) text in
    rules_fits text s (events_after state_event first said) (section_end (trimmed_lines text)) u
    (after_fits text state_event (DeclaredFits text) (state_fits text) first said first_fits (all_declared text (allows_comments s.flags) u)) (mark_fits text (trimmed_lines text) (trimmed_pieces text u))

-- ---- faults
if_found : (text : List ℕ) (b : Bool) (s : Span) → SpanFits text s → IfSome (if b then Some s else None) (SpanFits text)
if_found text true s h = h
if_found text false s h = tt

place_of_duplicate : (text : List ℕ) (subject : Subject) (original : Span) (e : Event) → EventFits text e → IfSome (duplicate_of subject original e) (SpanFits text)
place_of_duplicate text subject original (NewState s) h = tt
place_of_duplicate text subject original (NewRule r) h = tt
place_of_duplicate text subject original (Duplicate s o f) h = if_found text (same_subject s subject && same_span o original) f h.1
place_of_duplicate text subject original (Verbatim s) h = tt
place_of_duplicate text subject original (Refused at pattern) h = tt
place_of_duplicate text subject original (Fatal f) h = tt

one_fault : (text : List ℕ) (f : Fault) → FaultFits text f → All (FaultFits text) (f ∷ [])
one_fault text f h = All-cons (FaultFits text) f [] h (All-nil (FaultFits text))

event_fault : (text : List ℕ) (earlier : List Event) (e : Event) (later : List Event) → EventFits text e → All (EventFits text) later → All (FaultFits text) (fault_of earlier e later)
event_fault text earlier (NewState s) later h a = All-nil (FaultFits text)
event_fault text earlier (NewRule r) later h a = All-nil (FaultFits text)
event_fault text earlier (Duplicate subject original place) later h a =
    let more = filter_map (duplicate_of subject original) later in
    let f = fault (kind_of subject) (original ∷ place ∷ more) in
    let fits : FaultFits text f = record {
      some = omega arith;
      fit = All-cons (SpanFits text) original (place ∷ more) h.0 (All-cons (SpanFits text) place more h.1 (all_filter_map (EventFits text) (SpanFits text) (duplicate_of subject original) (place_of_duplicate text subject original) later a));
    } in
    either (All (FaultFits text)) (list_any (λ e. is_some (duplicate_of subject original e)) earlier) [] (f ∷ []) (All-nil (FaultFits text)) (one_fault text f fits)
event_fault text earlier (Verbatim s) later h a = one_fault text (fault VerbatimNotSupported (s ∷ [])) (record { some = omega arith; fit = All-cons (SpanFits text) s [] h (All-nil (SpanFits text)) })
event_fault text earlier (Refused at pattern) later h a = one_fault text (fault_at RegexError at) (fits_at text RegexError at h)
event_fault text earlier (Fatal f) later h a = one_fault text f h

pub faults_fit : (text : List ℕ) (earlier events : List Event) → All (EventFits text) events → All (FaultFits text) (faults_after earlier events)
faults_fit text earlier [] a = All-nil (FaultFits text)
faults_fit text earlier (e ∷ later) a =
    All-append (FaultFits text) (fault_of earlier e later) (faults_after (earlier ++ e ∷ []) later) (event_fault text earlier e later (All-head (EventFits text) e later a) (All-tail (EventFits text) e later a))
    (faults_fit text (earlier ++ e ∷ []) later (All-tail (EventFits text) e later a))

abbrev OutcomeFits : List ℕ → Result Definition (List Fault) → Type 0
OutcomeFits text (Ok d) = Unit {0}
OutcomeFits text (Err fs) = All (FaultFits text) fs

definition_fits : (text : List ℕ) (flags : LexFlags) (events : List Event) (fs : List Fault) → All (FaultFits text) fs → OutcomeFits text (definition_or_faults flags events fs)
definition_fits text flags events [] a = tt
definition_fits text flags events (f ∷ fs) a = a

outcome_fits : (s : Settings) (text : List ℕ) → IsUtf8 text → OutcomeFits text (outcome s text)
outcome_fits s text u = definition_fits text s.flags (events_of s text) (faults_after [] (events_of s text)) (faults_fit text [] (events_of s text) (events_fit s text u))

-- ---- the program's faults
spans_fit : (text : List ℕ) (xs : List TheSpan) → All (SpanFits text) (map as_span xs) → All (Fits text) xs
spans_fit text [] a = All-nil (Fits text)
spans_fit text (x ∷ xs) a = All-cons (Fits text) x xs (All-head (SpanFits text) (as_span x) (map as_span xs) a) (spans_fit text xs (All-tail (SpanFits text) (as_span x) (map as_span xs) a))

fault_placed : (text : List ℕ) (e : LexBuildError) → FaultFits text (as_fault e) → IsPlaced text e
fault_placed text e h =
    let some = h.some in
    let size = length-map e.spans.items as_span in
    record { some = omega arith; fit = spans_fit text e.spans.items h.fit }

pub faults_placed : (text : List ℕ) (es : List LexBuildError) → All (FaultFits text) (map as_fault es) → All (IsPlaced text) es
faults_placed text [] a = All-nil (IsPlaced text)
faults_placed text (e ∷ es) a = All-cons (IsPlaced text) e es (fault_placed text e (All-head (FaultFits text) (as_fault e) (map as_fault es) a)) (faults_placed text es (All-tail (FaultFits text) (as_fault e) (map as_fault es) a))

-- the faults with which a rule text is refused
pub outcome_placed : (s : Settings) (text : List ℕ) (es : List LexBuildError) → IsUtf8 text → Err (map as_fault es) ≡ outcome s text → All (IsPlaced text) es
outcome_placed s text es u e = faults_placed text es (subst (OutcomeFits text) (sym e) (outcome_fits s text u))
