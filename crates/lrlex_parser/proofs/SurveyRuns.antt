-- A survey over one line after another.
use Rattle.std.proofs.Common.{◌≡◌, ℕ, zero, suc, ◌+◌, ◌<◌, Bool, true, false, eqb, List, [], ◌∷◌, ◌++◌, length, take, get_or, map, Some, None, refl, sym, ap, subst, ◌∙◌, arith}
use Rattle.std.specs.Prelude.{if◌then◌else◌, ◌==◌}
use Rattle.std.proofs.lemmas.List.{take_more, map_push}
use Rattle.std.proofs.lemmas.Bool.Decides.{nat_tests}
use Rattle.lrlex_rules.specs.declared.flags.LexFlags.{LexFlags}
use Rattle.lrlex_parser.specs.declared.text.Line.{Line}
use Rattle.lrlex_parser.specs.declared.survey.Survey.{Survey}
use Rattle.lrlex_parser.specs.Text.{Piece}
use Rattle.lrlex_parser.specs.Event.{Event, is_refused}
use Rattle.lrlex_parser.specs.Declaration.{state_event, declared_by}
use Rattle.lrlex_parser.specs.Outcome.{Settings, events_after, line_event}
use Rattle.lrlex_parser.specs.AllFaults.{settings_at, name_events, declaration_events, rule_events, all_after}
use Rattle.lrlex_parser.specs.LexParser.{Represents, AddsLine, Suits, AreApart, hits, refused_of, as_piece}
use Rattle.lrlex_parser.specs.Survey.{EndsFatal, IsCalm, IsAtFault, AddsRules}
use Rattle.lrlex_parser.proofs.LexParserLemmas.{refused-push}
use Rattle.lrlex_parser.proofs.SurveyLemmas.{name_events_are, name_events_end, name_events_same, line_event_same, grows_to_fault}

-- one line more at the end
all_after-push : (f : List Event → Piece → List Event) (events : List Event) (xs : List Piece) (x : Piece) → all_after f events (xs ++ x ∷ []) ≡ all_after f events xs ++ f (all_after f events xs) x
all_after-push f events [] x = refl
all_after-push f events (y ∷ ys) x = all_after-push f (events ++ f events y) ys x

-- the same of a list that is read by index
pub all_after_more : (f : List Event → Piece → List Event) (events : List Event) (ls : List Line) (i : ℕ) (d : Line) → i < length ls
    → all_after f events (map as_piece (take i ls)) ++ f (all_after f events (map as_piece (take i ls))) (as_piece (get_or ls i d)) ≡ all_after f events (map as_piece (take (i + 1) ls))
all_after_more f events ls i d lt =
    sym (all_after-push f events (map as_piece (take i ls)) (as_piece (get_or ls i d))) ∙ ap (all_after f events) (sym (ap (map as_piece) (take_more ls i d lt) ∙ map_push as_piece (take i ls) (get_or ls i d)))

-- ---- a declaration
pub declares : {S : Type 0} (number : S → ℕ) (flags : LexFlags) (old new : Survey S) (events : List Event) (line : Piece) (was : IsCalm number flags old events) → new.told ≡ old.told
    → Represents number flags new.parser (events_after state_event was.0.since (declared_by line)) → IsAtFault number flags new (events ++ declaration_events events line)
declares number flags old new events line was told now =
    let since = was.0.since in
    let names = declared_by line in
    let own : name_events since names ≡ name_events events names = name_events_same since events names was.0.states in
    let P : List Event → Type 0 = λ es. Represents number flags new.parser es in
    let Q : List Event → Type 0 = λ es. is_refused (since ++ es) ≡ true → EndsFatal (since ++ es) in
    grows_to_fault number flags old events was.0 new (name_events events names) told (subst P (name_events_are since names was.1 ∙ ap (λ (es : List Event). since ++ es) own) now) (subst Q own (name_events_end since names was.1))

-- ---- a rule line
self_same : (o : ℕ) → eqb o o ≡ true
self_same o = grind (arith, nat_tests)

other : (a b : ℕ) → a < b → eqb a b ≡ false
other a b h = grind (arith, nat_tests)

hits_if : (b : Bool) (o : ℕ) → hits (if b then Some o else None) o ≡ b
hits_if true o = self_same o
hits_if false o = refl

-- of the line at o the answer is now b
abbrev with_line : ℕ → Bool → (ℕ → Bool) → ℕ → Bool
with_line o b refuses x = if x == o then b else refuses x

at_line : (o : ℕ) (b : Bool) (refuses : ℕ → Bool) → with_line o b refuses o ≡ b
at_line o b refuses = rw (self_same o) refl

before_line : (o : ℕ) (b : Bool) (refuses : ℕ → Bool) (x : ℕ) → x < o → refuses x ≡ with_line o b refuses x
before_line o b refuses x h = sym (rw (other x o h) refl)

-- rules that are refused alike
same_rules : (asked : LexFlags) (greatest : ℕ) (r r' : ℕ → Bool) (i : ℕ) (ls : List Line) → ((j : ℕ) (d : Line) → j < i → j < length ls → r (get_or ls j d).at ≡ r' (get_or ls j d).at) → (events : List Event)
    → all_after (rule_events asked greatest r) events (map as_piece (take i ls)) ≡ all_after (rule_events asked greatest r') events (map as_piece (take i ls))
same_rules asked greatest r r' zero ls h events = refl
same_rules asked greatest r r' (suc i) [] h events = refl
same_rules asked greatest r r' (suc i) (l ∷ ls) h events =
    let one : Bool → List Event = λ b. line_event (record { flags = asked; greatest_id = greatest; refused = if b then Some l.at else None }) events (as_piece l) ∷ [] in
    let rest : (b : Bool) → List Event = λ b. all_after (rule_events asked greatest r) (events ++ one b) (map as_piece (take i ls)) in
    ap rest (h 0 l (omega arith) (omega arith))
    ∙ same_rules asked greatest r r' i ls (λ j d lt lt'. h (suc j) d (omega arith) (omega arith)) (events ++ one (r' l.at))

same_default : (xs : List Line) (i : ℕ) (d e : Line) → i < length xs → get_or xs i d ≡ get_or xs i e
same_default [] i d e h = absurd (omega arith)
same_default (x ∷ xs) zero d e h = refl
same_default (x ∷ xs) (suc i) d e h = same_default xs i d e (omega arith)

ends_one : (es : List Event) (e : Event) → is_refused es ≡ false → is_refused (es ++ e ∷ []) ≡ true → EndsFatal (es ++ e ∷ [])
ends_one es e h r = record { before = es; last = e; split = refl; calm = h; fatal = sym (refused-push es e h) ∙ r }

rule_step : {S : Type 0} (number : S → ℕ) (flags : LexFlags) (greatest : ℕ) (old new : Survey S) (es : List Event) (line : Piece) (s : Settings) → Suits s flags greatest → IsCalm number flags old es → new.told ≡ old.told
    → AddsLine number flags greatest old.parser new.parser line.at (λ s events. line_event s events line) → hits s.refused line.at ≡ hits (refused_of new.parser) line.at → IsAtFault number flags new (es ++ line_event s es line ∷ [])
rule_step number flags greatest old new es line s suits was told adds hit =
    let since = was.0.since in
    let e = line_event s es line in
    let P : Event → Type 0 = λ x. Represents number flags new.parser (since ++ x ∷ []) in
    grows_to_fault number flags old es was.0 new (e ∷ []) told (subst P (line_event_same s since es line was.0.states was.0.rules) (adds s suits since was.0.parser hit)) (ends_one since e was.1)

module _ {S : Type 0} (number : S → ℕ) (flags : LexFlags) (greatest : ℕ) (begun b mid new : Survey S) (ls : List Line) (i : ℕ) (d : Line) (lt : i < length ls) (apart : AreApart ls) (inv : AddsRules number flags greatest begun b (take i ls))
    (told : mid.told ≡ b.told) (adds : AddsLine number flags greatest b.parser mid.parser (get_or ls i d).at (λ s events. line_event s events (as_piece (get_or ls i d))))
    (passes : (f : LexFlags) (events : List Event) → IsAtFault number f mid events → IsCalm number f new events) where
  now : Bool
  now = hits (refused_of mid.parser) (get_or ls i d).at

  abbrev answers : ℕ → Bool
  answers = with_line (get_or ls i d).at now inv.0

  alike : (j : ℕ) (x : Line) → j < i → j < length ls → inv.0 (get_or ls j x).at ≡ answers (get_or ls j x).at
  alike j x h k =
      let further : (get_or ls j x).at < (get_or ls i d).at = subst (λ (l : Line). (get_or ls j x).at < l.at) (same_default ls i x d lt) (apart j i x h lt) in
      before_line (get_or ls i d).at now inv.0 (get_or ls j x).at further

  hit : (asked : LexFlags) → hits (settings_at asked greatest answers (get_or ls i d).at).refused (get_or ls i d).at ≡ hits (refused_of mid.parser) (get_or ls i d).at
  unfolding now
  hit asked = hits_if (answers (get_or ls i d).at) (get_or ls i d).at ∙ at_line (get_or ls i d).at now inv.0

  pub rules_more : AddsRules number flags greatest begun new (take (i + 1) ls)
  rules_more = (
    answers,
    λ asked e events was.
        let line = as_piece (get_or ls i d) in
        let f = rule_events asked greatest answers in
        let so_far : IsCalm number flags b (all_after f events (map as_piece (take i ls))) = subst (IsCalm number flags b) (same_rules asked greatest inv.0 answers i ls alike events) (inv.1 asked e events was) in
        let suits : Suits (settings_at asked greatest answers line.at) flags greatest = record { flags_are = e; greatest_is = refl } in
        subst (IsCalm number flags new) (all_after_more f events ls i d lt)
        (passes flags _ (rule_step number flags greatest b mid (all_after f events (map as_piece (take i ls))) line (settings_at asked greatest answers line.at) suits so_far told adds (hit asked))),
  )
