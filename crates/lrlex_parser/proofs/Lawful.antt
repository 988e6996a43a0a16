-- The laws of each definition that a rule text makes: each rule and each state fits those before it.
use Rattle.std.proofs.Common.{◌≡◌, ℕ, zero, suc, ◌+◌, ◌-◌, ◌<◌, ◌≤◌, Bool, true, false, List, [], ◌∷◌, ◌++◌, length, take, drop, Option, Some, None, Result, Ok, Err, refl, sym, ap, subst, ◌∙◌, arith, slice_get, get_or}
use Rattle.std.specs.Prelude.{◌≢◌, if◌then◌else◌, not, ◌==◌, nat_lt, IfSome, codes, slice_range, All}
use Rattle.std.specs.Option.{option_map, option_map_or, ok_or}
use Rattle.std.specs.Str.{byte, IsUtf8}
use Rattle.std.proofs.lemmas.Str.{IsCharBoundary-after_ascii}
use Rattle.std.specs.List.{list_any, find, filter_map, cons_option, before_last, after_last}
use Rattle.std.specs.Cmp.{first_so}
use Rattle.std.proofs.lemmas.Bool.{ltb-true, true≢false}
use Rattle.std.proofs.lemmas.List.{append-nil, length-append, length-map, length-take-le, length-drop, take_all, take-append-le, drop-append-le}
use Rattle.std.proofs.lemmas.List.Elements.{All-head, All-tail, filter_map-append}
use Rattle.std.proofs.lemmas.List.Splits.{length-slice_split}
use Rattle.std.proofs.lemmas.Option.{slice_get_within}
use Rattle.std.proofs.lemmas.Slice.Eq.{bytes_eq-Decides}
use Rattle.std.proofs.Math.Seq.{drop-append-add}
use Rattle.lrlex_base.specs.Spans.{Span, span, at_place}
use Rattle.lrlex_base.specs.Classes.{is_line_sep, is_blank}
use Rattle.lrlex_rules.specs.declared.flags.LexFlags.{LexFlags}
use Rattle.lrlex_rules.specs.declared.states.StartStateOperation.{StartStateOperation}
use Rattle.lrlex_rules.specs.Flags.{has_posix_escapes, allows_comments, config_of}
use Rattle.lrlex_rules.specs.Definition.{StartState, Rule, Definition}
use Rattle.lrlex_parser.specs.Text.{Piece, piece, cut_lines, trim_end, trim_text, begins_with, same_text, is_white}
use Rattle.lrlex_parser.specs.Event.{span_of, Fault, FaultKind, fault_at, ◌>>=◌, Event, new_state, new_rule, states_of, rules_of, is_refused}
use Rattle.lrlex_parser.specs.Event.FaultKind.{InvalidName, UnknownStartState, InvalidStartState, MissingSpace, TooManyRules, PrematureEnd, RoutinesNotSupported}
use Rattle.lrlex_parser.specs.Event.Event.{NewState, NewRule, Verbatim, Refused, Fatal}
use Rattle.lrlex_parser.specs.Declaration.{Declared, trimmed_lines, section_lines, section_end, declarations, initial, state_named, new_or_duplicate, state_event}
use Rattle.lrlex_parser.specs.Declaration.Declared.{Name, Wrong}
use Rattle.lrlex_parser.specs.Escape.{trim_head, unescape}
use Rattle.lrlex_parser.specs.RuleLine.{is_greater, in_angles, after_angles, target_of, name_part, is_unnamed, is_quoted_by, is_quoted, RuleLabel, label_of, LineParts, parts_of_word, split, Pattern, cons_both, state_id, state_ids, all_ids, listed_ids, listed_names, read_pattern}
use Rattle.lrlex_parser.specs.Outcome.{Settings, events_after, then_fatal, has_name, rule_with_name, rule_event, pattern_event, parts_event, split_event, is_verbatim, line_event, rules_section, end_events, rules_events, events_of, faults_after, definition_or_faults, outcome}
use Rattle.lrlex_parser.specs.DefinitionLaws.{RuleIdsArePlaces, StateIdsArePlaces, RuleNamesDiffer, StateNamesDiffer, IsNameAt, RuleNamesStand, StateNamesStand, PatternsAreRewritten, IsLawful}
use Rattle.lrlex_parser.proofs.Placed.{IsPiece, suffix, cut_pieces, trimmed_end, last_at}
use Rattle.lrlex_parser.proofs.PlacedFaults.{either, DeclaredFits, all_declared, either_quote, EndsWord, name_stands, section_pieces, trimmed_pieces, section_fits, MarkFits, mark_fits}
use Rattle.lrlex_parser.proofs.Blanks.{blank_low}
use Rattle.lrlex_parser.proofs.Steady.{unescape_again}

-- ---- lists whose elements fit those before them
at_last : {X : Type 0} (P : Type 0) (xs : List X) (y : X) (k : ℕ) (x : X) → slice_get (xs ++ y ∷ []) k ≡ Some x → (k < length xs → slice_get xs k ≡ Some x → P) → (k ≡ length xs → y ≡ x → P) → P
at_last P [] y zero x h f g = g refl cc
at_last P [] y (suc k) x h f g = cc
at_last P (z ∷ zs) y zero x h f g = f (omega arith) h
at_last P (z ∷ zs) y (suc k) x h f g = at_last P zs y k x h (λ lt e. f (omega arith) e) (λ e s. g (omega arith) s)

get_take : {X : Type 0} (xs : List X) (j k : ℕ) (x : X) → j < k → slice_get xs j ≡ Some x → slice_get (take k xs) j ≡ Some x
get_take [] j k x lt h = cc
get_take (y ∷ ys) j zero x lt h = absurd (omega arith)
get_take (y ∷ ys) zero (suc k) x lt h = h
get_take (y ∷ ys) (suc j) (suc k) x lt h = get_take ys j k x (omega arith) h

module _ {X : Type 0} (P : List X → X → Type 0) where
  -- each element fits those before it
  abbrev Each : List X → Type 0
  Each xs = (k : ℕ) (x : X) → slice_get xs k ≡ Some x → P (take k xs) x

  each_push : (xs : List X) (y : X) → Each xs → P xs y → Each (xs ++ y ∷ [])
  each_push xs y a p k x h =
      at_last (P (take k (xs ++ y ∷ [])) x) xs y k x h
      (λ lt e. let le : k ≤ length xs = omega arith in subst (λ (t : List X). P t x) (sym (take-append-le k xs (y ∷ []) le)) (a k x e))
      (λ e s.
      let le : k ≤ length xs = omega arith in
      let ge : length xs ≤ k = omega arith in
      subst (λ (t : List X). P t x) (sym (take-append-le k xs (y ∷ []) le ∙ take_all k xs ge)) (subst (P xs) s p))

  each_more : (xs : List X) (o : Option X) → Each xs → IfSome o (P xs) → Each (xs ++ cons_option o [])
  each_more xs None a h = subst Each (sym (append-nil xs)) a
  each_more xs (Some y) a h = each_push xs y a h

  each_event : {E : Type 0} (new : E → Option X) (es : List E) (e : E) → Each (filter_map new es) → IfSome (new e) (P (filter_map new es)) → Each (filter_map new (es ++ e ∷ []))
  each_event new es e a h = subst Each (sym (filter_map-append new es (e ∷ []))) (each_more (filter_map new es) (new e) a h)

some_more : {X E : Type 0} (new : E → Option X) (es : List E) (e : E) → 0 < length (filter_map new es) → 0 < length (filter_map new (es ++ e ∷ []))
some_more new es e h =
    let sizes : length (filter_map new (es ++ e ∷ [])) ≡ length (filter_map new es) + length (cons_option (new e) []) = ap length (filter_map-append new es (e ∷ [])) ∙ length-append (filter_map new es) (cons_option (new e) []) in
    omega arith

none_head : {X : Type 0} (p : X → Bool) (y : X) (o : Option X) (b : Bool) → p y ≡ b → (if b then Some y else o) ≡ None → (p y ≡ false) × (o ≡ None)
none_head p y o true e h = cc
none_head p y o false e h = (e, h)

find_none : {X : Type 0} (p : X → Bool) (xs : List X) (k : ℕ) (x : X) → find p xs ≡ None → slice_get xs k ≡ Some x → p x ≡ false
find_none p [] k x h e = cc
find_none {X = X} p (y ∷ ys) zero x h e = let same : y ≡ x = cc in subst (λ (z : X). p z ≡ false) same (none_head p y (find p ys) (p y) refl h).0
find_none p (y ∷ ys) (suc k) x h e = find_none p ys k x (none_head p y (find p ys) (p y) refl h).1 e

differ : (m n : List ℕ) → same_text m n ≡ false → m ≢ n
differ m n h e = true≢false (sym ((bytes_eq-Decides m n).1 e) ∙ h)

-- ---- what stands in the text
piece_range : (text : List ℕ) (x : Piece) (a b from to : ℕ) → IsPiece text x → a ≤ b → b ≤ length x.text → from ≡ x.at + a → to ≡ x.at + b → slice_range text from to ≡ slice_range x.text a b
piece_range text x a b from to p le short ef et =
    let s = p.stands in
    let place = s.place in
    let start : from ≡ length p.before + a = omega arith in
    let size : to - from ≡ b - a = omega arith in
    let dropped : drop from text ≡ drop a x.text ++ s.after =
    ap (λ (i : ℕ). drop i text) start ∙ ap (λ (t : List ℕ). drop (length p.before + a) t) s.is ∙ drop-append-add p.before (x.text ++ s.after) a ∙ drop-append-le a x.text s.after (omega arith) in
    let left = length-drop a x.text in
    ap (λ (t : List ℕ). take (to - from) t) dropped ∙ ap (λ (n : ℕ). take n (drop a x.text ++ s.after)) size ∙ take-append-le (b - a) (drop a x.text) s.after (omega arith)

all_of : (xs : List ℕ) → slice_range xs 0 (length xs) ≡ xs
all_of xs = take_all (length xs - 0) xs (omega arith)

piece_name : (text : List ℕ) (x : Piece) → IsPiece text x → IsNameAt text (span_of x) x.text
piece_name text x p = piece_range text x 0 (length x.text) x.at (x.at + length x.text) p (omega arith) (omega arith) (omega arith) refl ∙ all_of x.text

-- ---- rules and states
record IsGoodRule (text : List ℕ) (posix : Bool) (before : List Rule) (r : Rule) : Type 0 where
  id : r.id ≡ Some (length before)
  new : rule_with_name before r.name ≡ None
  there : IfSome r.name (IsNameAt text r.name_span)
  steady : r.start_states ≡ [] → unescape posix r.re_str ≡ r.re_str

record IsGoodState (text : List ℕ) (before : List StartState) (x : StartState) : Type 0 where
  id : x.id ≡ length before
  new : state_named x.name before ≡ None
  there : 0 < length before → IsNameAt text x.name_span x.name

-- ---- events
module _ (text : List ℕ) (posix : Bool) where
  record AreGood (events : List Event) : Type 0 where
    rules : Each (IsGoodRule text posix) (rules_of events)
    states : Each (IsGoodState text) (states_of events)
    some : 0 < length (states_of events)

  record IsGoodEvent (earlier : List Event) (e : Event) : Type 0 where
    rule : IfSome (new_rule e) (IsGoodRule text posix (rules_of earlier))
    state : IfSome (new_state e) (IsGoodState text (states_of earlier))

  good_push : (events : List Event) (e : Event) → AreGood events → IsGoodEvent events e → AreGood (events ++ e ∷ [])
  good_push events e a h = record {
    rules = each_event (IsGoodRule text posix) new_rule events e a.rules h.rule;
    states = each_event (IsGoodState text) new_state events e a.states h.state;
    some = some_more new_state events e a.some;
  }

  good_after : {X : Type 0} (event : List Event → X → Event) (P : X → Type 0) → ((earlier : List Event) (x : X) → AreGood earlier → P x → IsGoodEvent earlier (event earlier x))
      → (earlier : List Event) (xs : List X) → AreGood earlier → All P xs → AreGood (events_after event earlier xs)
  good_after event P step earlier [] a h = a
  good_after event P step earlier (x ∷ xs) a h =
      let more = earlier ++ event earlier x ∷ [] in
      either AreGood (is_refused earlier) earlier (events_after event more xs) a
      (good_after event P step more xs (good_push earlier (event earlier x) a (step earlier x a (All-head P x xs h))) (All-tail P x xs h))

  good_then : (events : List Event) (kind : FaultKind) (o : ℕ) → AreGood events → AreGood (then_fatal events kind o)
  good_then events kind o a = either AreGood (is_refused events) events (events ++ Fatal (fault_at kind o) ∷ []) a (good_push events (Fatal (fault_at kind o)) a (record { rule = tt; state = tt }))

-- ---- declarations
new_state_good : (text : List ℕ) (posix : Bool) (earlier : List Event) (exclusive : Bool) (name : Piece) (o : Option StartState) → state_named name.text (states_of earlier) ≡ o → IsPiece text name → IsGoodEvent text posix earlier (new_or_duplicate (states_of earlier) exclusive name o)
new_state_good text posix earlier exclusive name None e p = record { rule = tt; state = record { id = refl; new = e; there = λ some. piece_name text name p } }
new_state_good text posix earlier exclusive name (Some original) e p = record { rule = tt; state = tt }

state_good : (text : List ℕ) (posix : Bool) (earlier : List Event) (d : Declared) → AreGood text posix earlier → DeclaredFits text d → IsGoodEvent text posix earlier (state_event earlier d)
state_good text posix earlier (Wrong f) a h = record { rule = tt; state = tt }
state_good text posix earlier (Name exclusive name) a h = new_state_good text posix earlier exclusive name (state_named name.text (states_of earlier)) refl h

-- ---- a rule line's name
abbrev LabelStands : List ℕ → Result RuleLabel Fault → Type 0
LabelStands text (Ok l) = IfSome l.name (IsNameAt text l.span)
LabelStands text (Err f) = Unit {0}

abbrev PartsStand : List ℕ → Result LineParts Fault → Type 0
PartsStand text (Ok p) = IfSome p.label.name (IsNameAt text p.label.span)
PartsStand text (Err f) = Unit {0}

quoted_length : (quote : ℕ) (part : List ℕ) → is_quoted_by quote part ≡ true → 2 < length part
quoted_length quote part h = ltb-true 2 (length part) (first_so _ _ h)

quoted_name : (text : List ℕ) (o : ℕ) (word part : List ℕ) → EndsWord text o word part → is_quoted part ≡ true → IsNameAt text (span (o + length word - length part + 1) (o + length word - 1)) (take (length part - 2) (drop 1 part))
quoted_name text o word part w h =
    let short = w.short in
    let more : 2 < length part = either_quote (is_quoted_by (byte "'") part) (is_quoted_by (byte "\"") part) h (2 < length part) (quoted_length (byte "'") part) (quoted_length (byte "\"") part) in
    let n = length part - 1 in
    let size : n - 1 ≡ length part - 2 = omega arith in
    piece_range text (piece (o + length word - length part) part) 1 n (o + length word - length part + 1) (o + length word - 1) w.stands (omega arith) (omega arith) refl (omega arith)
    ∙ ap (λ (k : ℕ). take k (drop 1 part)) size

quoted_label : (text : List ℕ) (o : ℕ) (word part : List ℕ) (f : Fault) (b : Bool) → is_quoted part ≡ b → EndsWord text o word part
    → LabelStands text (if b then Ok (record { name = Some (take (length part - 2) (drop 1 part)); span = span (o + length word - length part + 1) (o + length word - 1) }) else Err f)
quoted_label text o word part f true e w = quoted_name text o word part w e
quoted_label text o word part f false e w = tt

label_stands : (text : List ℕ) (blank : ℕ) (word : List ℕ) → IsPiece text (piece (blank + 1) word) → LabelStands text (label_of blank word)
label_stands text blank word p =
    let part = name_part word in
    let name = take (length part - 2) (drop 1 part) in
    let end = blank + 1 + length word in
    either (LabelStands text) (is_unnamed part) (Ok (record { name = None; span = at_place (blank + 1) }))
    (if is_quoted part then Ok (record { name = Some name; span = span (end - length part + 1) (end - 1) }) else Err (fault_at InvalidName (blank + 1))) tt
    (quoted_label text (blank + 1) word part (fault_at InvalidName (blank + 1)) (is_quoted part) refl (name_stands text (blank + 1) word p))

with_label : (text head : List ℕ) (t : Option (ℕ × StartStateOperation)) (r : Result RuleLabel Fault) → LabelStands text r → PartsStand text (r >>= (λ label. Ok (record { head = head; target = t; label = label })))
with_label text head t (Ok l) h = h
with_label text head t (Err f) h = tt

with_target : (text head : List ℕ) (r : Result (Option (ℕ × StartStateOperation)) Fault) (l : Result RuleLabel Fault) → LabelStands text l → PartsStand text (r >>= (λ target. l >>= (λ label. Ok (record { head = head; target = target; label = label }))))
with_target text head (Ok t) l k = with_label text head t l k
with_target text head (Err f) l k = tt

split_case : (text : List ℕ) (states : List StartState) (o : ℕ) (t : List ℕ) (b : Bool) → list_any is_blank t ≡ b → IsPiece text (piece o t)
    → PartsStand text (if b then parts_of_word states (before_last is_blank t) (o + length (before_last is_blank t)) (after_last is_blank t) else Err (fault_at MissingSpace o))
split_case text states o t false e p = tt
split_case text states o t true e p =
    let at = last_at is_blank t e in
    let lt = at.lt in
    let low : get_or t at.n 0 < 128 = blank_low (get_or t at.n 0) at.passes in
    let size : length (before_last is_blank t) ≡ at.n = ap (length {A = ℕ}) at.front ∙ length-take-le at.n t (omega arith) in
    let blank = o + length (before_last is_blank t) in
    let word = after_last is_blank t in
    with_target text (before_last is_blank t) (target_of states blank word) (label_of blank word)
    (label_stands text blank word (suffix text (piece o t) (at.n + 1) (blank + 1) word p (IsCharBoundary-after_ascii t at.n p.stands.own lt low) (omega arith) at.back))

split_stands : (text : List ℕ) (states : List StartState) (line : Piece) → IsPiece text line → PartsStand text (split states line)
split_stands text states line p = split_case text states line.at (trim_end line.text) (list_any is_blank (trim_end line.text)) refl (trimmed_end text line p)

-- ---- a rule line's pattern
abbrev HasSome : Option (List ℕ) → Type 0
HasSome o = IfSome o (λ ids. 0 < length ids)

both_some : (o : Option ℕ) (ids : Option (List ℕ)) → HasSome (cons_both o ids)
both_some None ids = tt
both_some (Some id) None = tt
both_some (Some id) (Some ids) = omega arith

listed_some : (states : List StartState) (names : List (List ℕ)) → 0 < length states → 0 < length names → HasSome (listed_ids states names)
listed_some states [] h k = absurd (omega arith)
listed_some states (name ∷ []) h k =
    let size : length (all_ids states) ≡ length states = length-map states (λ (s : StartState). s.id) in
    let all : HasSome (Some (all_ids states)) = omega arith in
    either HasSome (same_text (trim_text name) (codes "*")) (Some (all_ids states)) (state_ids states (name ∷ [])) all (both_some (state_id states (trim_text name)) (Some []))
listed_some states (name ∷ n ∷ ns) h k = both_some (state_id states (trim_text name)) (state_ids states (n ∷ ns))

abbrev PatternIsSteady : Bool → Result Pattern Fault → Type 0
PatternIsSteady posix (Ok p) = p.start_states ≡ [] → unescape posix p.text ≡ p.text
PatternIsSteady posix (Err f) = Unit {0}

listed_steady : (posix : Bool) (head : List ℕ) (f : Fault) (ids : Option (List ℕ)) → HasSome ids → PatternIsSteady posix (ok_or (option_map (λ (ids : List ℕ). record { start_states = ids; text = after_angles head }) ids) f)
listed_steady posix head f None h = tt
listed_steady posix head f (Some ids) h = λ e. let none = ap (length {A = ℕ}) e in absurd (omega arith)

pattern_steady : (posix : Bool) (states : List StartState) (o : ℕ) (head : List ℕ) → 0 < length states → PatternIsSteady posix (read_pattern posix states o head)
pattern_steady posix states o head h =
    let names = listed_names (in_angles head) in
    let ids = listed_ids states names in
    let made : Option Pattern = option_map (λ (ids : List ℕ). record { start_states = ids; text = after_angles head }) ids in
    let some : 0 < length names = omega (arith, length-slice_split (λ c. c == 44) (in_angles head)) in
    either (PatternIsSteady posix) (not (begins_with (codes "<") head)) (Ok (record { start_states = []; text = unescape posix head }))
    (if list_any is_greater head then ok_or made (fault_at UnknownStartState o) else Err (fault_at InvalidStartState o)) (λ e. unescape_again posix head)
    (either (PatternIsSteady posix) (list_any is_greater head) (ok_or made (fault_at UnknownStartState o)) (Err (fault_at InvalidStartState o)) (listed_steady posix head (fault_at UnknownStartState o) ids (listed_some states names h some)) tt)

-- ---- the events of a rule line
module _ (text : List ℕ) (s : Settings) (o : ℕ) (earlier : List Event) (a : AreGood text (has_posix_escapes s.flags) earlier) where
  abbrev Good : Event → Type 0
  Good e = IsGoodEvent text (has_posix_escapes s.flags) earlier e

  rule_event_good : (parts : LineParts) (pattern : Pattern) → rule_with_name (rules_of earlier) parts.label.name ≡ None → IfSome parts.label.name (IsNameAt text parts.label.span)
      → (pattern.start_states ≡ [] → unescape (has_posix_escapes s.flags) pattern.text ≡ pattern.text) → Good (rule_event s (rules_of earlier) o parts pattern)
  rule_event_good parts pattern new there steady =
      let made : Event = NewRule (record {
        id = Some (length (rules_of earlier));
        name = parts.label.name;
        name_span = parts.label.span;
        re_str = pattern.text;
        start_states = pattern.start_states;
        target = parts.target;
        config = config_of s.flags;
      }) in
      let is_refused_here = option_map_or (λ (x : ℕ). x == o) s.refused false in
      either Good (nat_lt s.greatest_id (length (rules_of earlier))) (Fatal (fault_at TooManyRules o)) (if is_refused_here then Refused o pattern.text else made) (record { rule = tt; state = tt })
      (either Good is_refused_here (Refused o pattern.text) made (record { rule = tt; state = tt }) (record { rule = record { id = refl; new = new; there = there; steady = steady }; state = tt }))

  pattern_event_good : (parts : LineParts) (r : Result Pattern Fault) → rule_with_name (rules_of earlier) parts.label.name ≡ None → IfSome parts.label.name (IsNameAt text parts.label.span)
      → PatternIsSteady (has_posix_escapes s.flags) r → Good (pattern_event s (rules_of earlier) o parts r)
  pattern_event_good parts (Ok pattern) new there steady = rule_event_good parts pattern new there steady
  pattern_event_good parts (Err f) new there steady = record { rule = tt; state = tt }

  parts_event_good : (parts : LineParts) (original : Option Rule) → rule_with_name (rules_of earlier) parts.label.name ≡ original → IfSome parts.label.name (IsNameAt text parts.label.span) → Good (parts_event s earlier o parts original)
  parts_event_good parts (Some original) new there = record { rule = tt; state = tt }
  parts_event_good parts None new there =
      pattern_event_good parts (read_pattern (has_posix_escapes s.flags) (states_of earlier) o (trim_head parts.head)) new there (pattern_steady (has_posix_escapes s.flags) (states_of earlier) o (trim_head parts.head) a.some)

  split_event_good : (r : Result LineParts Fault) → PartsStand text r → Good (split_event s earlier o r)
  split_event_good (Err f) h = record { rule = tt; state = tt }
  split_event_good (Ok parts) h = parts_event_good parts (rule_with_name (rules_of earlier) parts.label.name) refl h

line_good : (text : List ℕ) (s : Settings) (earlier : List Event) (line : Piece) → AreGood text (has_posix_escapes s.flags) earlier → IsPiece text line → IsGoodEvent text (has_posix_escapes s.flags) earlier (line_event s earlier line)
line_good text s earlier line a p =
    let r = split (states_of earlier) line in
    either (IsGoodEvent text (has_posix_escapes s.flags) earlier) (is_verbatim line) (Verbatim (span_of line)) (split_event s earlier line.at r) (record { rule = tt; state = tt })
    (split_event_good text s line.at earlier a r (split_stands text (states_of earlier) line p))

-- ---- sections
module _ (text : List ℕ) (s : Settings) (u : IsUtf8 text) where
  abbrev Known : List Event → Type 0
  Known events = AreGood text (has_posix_escapes s.flags) events

  end_good : (events : List Event) (o : Option Piece) → Known events → Known (end_events text events o)
  end_good events None a = a
  end_good events (Some mark) a =
      either Known (is_white (drop (mark.at + 2) text)) events (then_fatal events RoutinesNotSupported mark.at) a (good_then text (has_posix_escapes s.flags) events RoutinesNotSupported mark.at a)

  rules_good : (declared : List Event) (o : Option Piece) → Known declared → MarkFits text o → Known (rules_events s text declared o)
  rules_good declared None a h = good_then text (has_posix_escapes s.flags) declared PrematureEnd (length text) a
  rules_good declared (Some mark) a h =
      let rest = rules_section text mark in
      let ls = cut_lines rest in
      let pieces = cut_pieces is_line_sep text rest (section_fits text mark u h.0 h.1) in
      let said = section_lines (allows_comments s.flags) ls in
      end_good (events_after (line_event s) declared said) (section_end ls)
      (good_after text (has_posix_escapes s.flags) (line_event s) (IsPiece text) (line_good text s) declared said a (section_pieces text (allows_comments s.flags) ls pieces))

  none_yet : (k : ℕ) (r : Rule) → slice_get [] k ≡ Some r → IsGoodRule text (has_posix_escapes s.flags) (take k []) r
  none_yet k r h = cc

  first_state : (k : ℕ) (x : StartState) → slice_get (initial ∷ []) k ≡ Some x → IsGoodState text (take k (initial ∷ [])) x
  first_state zero x h =
      let same : initial ≡ x = cc in
      subst (IsGoodState text []) same (record { id = refl; new = refl; there = λ some. absurd (omega arith) })
  first_state (suc k) x h = cc

  events_good : Known (events_of s text)
  events_good =
      let first = NewState initial ∷ [] in
      let said = declarations (allows_comments s.flags) text in
      rules_good (events_after state_event first said) (section_end (trimmed_lines text))
      (good_after text (has_posix_escapes s.flags) state_event (DeclaredFits text) (state_good text (has_posix_escapes s.flags)) first said
      (record { rules = none_yet; states = first_state; some = omega arith }) (all_declared text (allows_comments s.flags) u)) (mark_fits text (trimmed_lines text) (trimmed_pieces text u))

-- ---- the laws
record IsGoodDefinition (text : List ℕ) (d : Definition) : Type 0 where
  rules : Each (IsGoodRule text (has_posix_escapes d.flags)) d.rules
  states : Each (IsGoodState text) d.states

abbrev OutcomeIsGood : List ℕ → Result Definition (List Fault) → Type 0
OutcomeIsGood text (Ok d) = IsGoodDefinition text d
OutcomeIsGood text (Err fs) = Unit {0}

good_case : (text : List ℕ) (flags : LexFlags) (events : List Event) (fs : List Fault) → AreGood text (has_posix_escapes flags) events → OutcomeIsGood text (definition_or_faults flags events fs)
good_case text flags events [] a = record { rules = a.rules; states = a.states }
good_case text flags events (f ∷ fs) a = tt

outcome_good : (s : Settings) (text : List ℕ) (d : Definition) → IsUtf8 text → outcome s text ≡ Ok d → IsGoodDefinition text d
outcome_good s text d u h = subst (OutcomeIsGood text) h (good_case text s.flags (events_of s text) (faults_after [] (events_of s text)) (events_good text s u))

there_is : (text : List ℕ) (at : Span) (o : Option (List ℕ)) (n : List ℕ) → o ≡ Some n → IfSome o (IsNameAt text at) → IsNameAt text at n
there_is text at o n e h = subst (λ (x : Option (List ℕ)). IfSome x (IsNameAt text at)) e h

module _ (text : List ℕ) (d : Definition) (g : IsGoodDefinition text d) where
  rule_ids : RuleIdsArePlaces d
  rule_ids k r h =
      let lt = slice_get_within d.rules k r h in
      (g.rules k r h).id ∙ ap Some (length-take-le k d.rules (omega arith))

  state_ids_are : StateIdsArePlaces d
  state_ids_are k x h =
      let lt = slice_get_within d.states k x h in
      (g.states k x h).id ∙ length-take-le k d.states (omega arith)

  rule_names : RuleNamesDiffer d
  rule_names j k a b m n lt ha hb ea eb =
      let none : find (has_name n) (take k d.rules) ≡ None = ap (rule_with_name (take k d.rules)) (sym eb) ∙ (g.rules k b hb).new in
      let other : has_name n a ≡ false = find_none (has_name n) (take k d.rules) j a none (get_take d.rules j k a lt ha) in
      differ m n (ap (λ (o : Option (List ℕ)). option_map_or (λ (x : List ℕ). same_text x n) o false) (sym ea) ∙ other)

  state_names : StateNamesDiffer d
  state_names j k a b lt ha hb =
      differ a.name b.name (find_none (λ (x : StartState). same_text x.name b.name) (take k d.states) j a (g.states k b hb).new (get_take d.states j k a lt ha))

  rule_names_stand : RuleNamesStand text d
  rule_names_stand k r n h e = there_is text r.name_span r.name n e (g.rules k r h).there

  state_names_stand : StateNamesStand text d
  state_names_stand k x h =
      let lt = slice_get_within d.states (suc k) x h in
      let size = length-take-le (suc k) d.states (omega arith) in
      (g.states (suc k) x h).there (omega arith)

  patterns : PatternsAreRewritten d
  patterns k r h e = (g.rules k r h).steady e

-- the definition of a rule text is lawful
pub outcome_lawful : (s : Settings) (text : List ℕ) (d : Definition) → IsUtf8 text → outcome s text ≡ Ok d → IsLawful text d
outcome_lawful s text d u h =
    let g = outcome_good s text d u h in
    record {
      rule_ids = rule_ids text d g;
      state_ids = state_ids_are text d g;
      rule_names = rule_names text d g;
      state_names = state_names text d g;
      rule_names_stand = rule_names_stand text d g;
      state_names_stand = state_names_stand text d g;
      patterns = patterns text d g;
    }
