-- One rule line after another.
use Rattle.std.proofs.Common.{◌≡◌, ℕ, zero, suc, ◌+◌, ◌<◌, false, List, [], ◌∷◌, length, get_or, take, map, Option, None, refl, sym, ap, subst, ◌∙◌, arith}
use Rattle.lrlex_rules.specs.declared.flags.LexFlags.{LexFlags}
use Rattle.lrlex_parser.specs.declared.text.Line.{Line}
use Rattle.lrlex_parser.specs.declared.lex_parser.LexParser.{LexParser}
use Rattle.lrlex_parser.specs.Event.{Event, is_refused}
use Rattle.lrlex_parser.specs.Outcome.{Settings, events_after, line_event}
use Rattle.lrlex_parser.specs.LexParser.{Represents, AddsLine, Suits, AreApart, HitAlike, hits, refused_in, refused_of, as_piece}
use Rattle.lrlex_parser.proofs.Refusals.{none_refused}
use Rattle.lrlex_parser.proofs.Runs.{events_after_more}
use Rattle.lrlex_parser.proofs.Tells.{IsAt, refused_here, misses}

same_default : (xs : List Line) (i : ℕ) (d e : Line) → i < length xs → get_or xs i d ≡ get_or xs i e
same_default [] i d e h = absurd (omega arith)
same_default (x ∷ xs) zero d e h = refl
same_default (x ∷ xs) (suc i) d e h = same_default xs i d e (omega arith)

module _ {S : Type 0} (number : S → ℕ) (flags : LexFlags) (greatest : ℕ) (begun b new : LexParser S) (ls : List Line) (i : ℕ) (d : Line) (lt : i < length ls) (calm : b.is_refused ≡ false) (apart : AreApart ls)
    (inv : (s : Settings) → Suits s flags greatest → (events : List Event) → Represents number flags begun events → HitAlike s.refused (refused_of b) ls i → Represents number flags b (events_after (line_event s) events (map as_piece (take i ls))))
    (adds : AddsLine number flags greatest b new (get_or ls i d).at (λ s events. line_event s events (as_piece (get_or ls i d)))) where
  pub line_more : (s : Settings) → Suits s flags greatest → (events : List Event) → Represents number flags begun events → HitAlike s.refused (refused_of new) ls (i + 1) → Represents number flags new (events_after (line_event s) events (map as_piece (take (i + 1) ls)))
  line_more s suits events was alike =
      let line = get_or ls i d in
      let with_refused = λ (r : Option ℕ). record s { refused = r } in
      let suits_all : (r : Option ℕ) → Suits (record s { refused = r }) flags greatest = λ r. record { flags_are = suits.flags_are; greatest_is = suits.greatest_is } in
      let first = inv (record s { refused = refused_of b }) (suits_all (refused_of b)) events was (λ j e h. refl) in
      let es = events_after (line_event (record s { refused = refused_of b })) events (map as_piece (take i ls)) in
      let quiet : is_refused es ≡ false = sym first.refused ∙ calm in
      let none : refused_of b ≡ None = ap refused_in first.faults ∙ none_refused es quiet in
      let next = adds (record s { refused = refused_of new }) (suits_all (refused_of new)) es first refl in
      let here : IsAt line.at (refused_of new) = refused_here number flags new (record s { refused = refused_of new }) es (as_piece line) quiet next in
      let before : HitAlike s.refused (refused_of b) ls i = λ j e h.
      let further : (get_or ls j e).at < line.at = subst (λ (l : Line). (get_or ls j e).at < l.at) (same_default ls i e d lt) (apart j i e h lt) in
      alike j e (omega arith) ∙ misses (refused_of new) (get_or ls j e).at line.at here further ∙ sym (ap (λ (x : Option ℕ). hits x (get_or ls j e).at) none) in
      let so_far = inv s suits events was before in
      let P : List Event → Type 0 = λ xs. Represents number flags new xs in
      subst P (events_after_more (line_event s) as_piece events ls i d lt (sym so_far.refused ∙ calm))
      (adds s suits (events_after (line_event s) events (map as_piece (take i ls))) so_far (alike i d (omega arith)))
