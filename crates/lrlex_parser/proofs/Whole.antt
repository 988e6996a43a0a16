-- A whole rule text.
use Rattle.std.proofs.Common.{◌≡◌, ℕ, ◌+◌, ◌-◌, ◌≤◌, Bool, true, false, List, [], ◌∷◌, ◌++◌, length, drop, map, Option, Some, None, Result, Ok, Err, refl, sym, ap, ◌∙◌, arith}
use Rattle.std.specs.Prelude.{OnOk, unwrap_or, if◌then◌else◌}
use Rattle.std.specs.Option.{option_map}
use Rattle.std.specs.List.{prefix_len, flat_map}
use Rattle.std.proofs.lemmas.List.{length-drop, drop-drop}
use Rattle.std.proofs.lemmas.List.Sums.{prefix_len-le-length}
use Rattle.lrlex_parser.specs.declared.text.Margins.TheVariants as margins
use Rattle.lrlex_rules.specs.declared.flags.LexFlags.{LexFlags}
use Rattle.lrlex_parser.specs.declared.text.Line.{Line}
use Rattle.lrlex_rules.specs.Flags.{resolved, allows_comments}
use Rattle.lrlex_parser.specs.Text.{Piece, piece, is_white, cut_lines, trim}
use Rattle.lrlex_base.specs.Classes.{is_blank}
use Rattle.lrlex_parser.specs.Event.{Event, fault_at, FaultKind, is_refused}
use Rattle.lrlex_parser.specs.Event.Event.{Fatal}
use Rattle.lrlex_parser.specs.Event.FaultKind.{RoutinesNotSupported}
use Rattle.lrlex_parser.specs.Declaration.{section_lines, section_end, declared_by, declarations, trimmed_lines}
use Rattle.lrlex_parser.specs.Outcome.{Settings, then_fatal, rules_section, rules_events, end_events, events_after, line_event}
use Rattle.lrlex_parser.specs.LexParser.{Suits, MarkAt, as_piece, laid_out}
use Rattle.lrlex_parser.proofs.Rising.{as_written}

pub on_any : {T E : Type 0} {P : Type 0} (r : Result T E) → P → OnOk r P
on_any (Ok x) h = h
on_any (Err e) h = tt

pub on_both : {T E : Type 0} {P Q S : Type 0} (r : Result T E) → (P → Q → S) → OnOk r P → OnOk r Q → OnOk r S
on_both (Ok x) f h k = f h k
on_both (Err e) f h k = tt

pub then_fatal_is : (events : List Event) (kind : FaultKind) (at : ℕ) → is_refused events ≡ false → events ++ Fatal (fault_at kind at) ∷ [] ≡ then_fatal events kind at
then_fatal_is events kind at h = sym (rw h refl)

pub section_place : (text : List ℕ) (mark : Line) (behind section : List ℕ) → behind ≡ drop ((mark.at - 0) + 2) text → section ≡ drop (prefix_len is_blank behind) behind → MarkAt 0 text mark
    → (piece (length text - length section) section ≡ rules_section text (as_piece mark)) × (section ≡ drop (length text - length section) text)
section_place text mark behind section eb es m =
    let room = m.room in
    let o = mark.at + 2 in
    let eo : behind ≡ drop o text = eb ∙ ap (λ (k : ℕ). drop k text) (omega arith) in
    let n = prefix_len is_blank (drop o text) in
    let is : section ≡ drop (o + n) text = es ∙ ap (λ (b : List ℕ). drop (prefix_len is_blank b) b) eo ∙ drop-drop n o text in
    let short : n ≤ length (drop o text) = prefix_len-le-length is_blank (drop o text) in
    let rest : length (drop o text) ≡ length text - o = length-drop o text in
    let size : length section ≡ length text - (o + n) = ap (length {A = ℕ}) is ∙ length-drop (o + n) text in
    let place : length text - length section ≡ o + n = omega arith in
    (ap (λ (k : ℕ). piece k section) place ∙ ap (piece (o + n)) is, is ∙ ap (λ (k : ℕ). drop k text) (sym place))

pub comments_are : (flags : LexFlags) (f : LexFlags) → resolved f ≡ flags → allows_comments f ≡ unwrap_or flags.allow_wholeline_comments false
comments_are flags f h = ap (λ (g : LexFlags). unwrap_or g.allow_wholeline_comments false) h

module _ (flags : LexFlags) (greatest : ℕ) (text section : List ℕ) (at : ℕ) (mark : Line) (ls : List Line) (end : Option Line) (comments : Bool)
    (place : piece at section ≡ rules_section text (as_piece mark)) (here : section ≡ drop at text) (asked : comments ≡ unwrap_or flags.allow_wholeline_comments false)
    (said : map as_piece ls ≡ section_lines comments (map (laid_out margins.Kept) (cut_lines (piece at section)))) (ended : option_map as_piece end ≡ section_end (map (laid_out margins.Kept) (cut_lines (piece at section)))) where
  rules_are : (s : Settings) → Suits s flags greatest → (events : List Event) → rules_events s text events (Some (as_piece mark)) ≡ end_events text (events_after (line_event s) events (map as_piece ls)) (option_map as_piece end)
  rules_are s suits events =
      let ps : section_lines (allows_comments s.flags) (cut_lines (piece at section)) ≡ map as_piece ls =
      ap (λ (b : Bool). section_lines b (cut_lines (piece at section))) (comments_are flags s.flags suits.flags_are ∙ sym asked) ∙ ap (section_lines comments) (sym (as_written (cut_lines (piece at section)))) ∙ sym said in
      let es : section_end (cut_lines (piece at section)) ≡ option_map as_piece end = ap section_end (sym (as_written (cut_lines (piece at section)))) ∙ sym ended in
      ap (λ (p : Piece). end_events text (events_after (line_event s) events (section_lines (allows_comments s.flags) (cut_lines p))) (section_end (cut_lines p))) (sym place)
      ∙ ap (λ (xs : List Piece). end_events text (events_after (line_event s) events xs) (section_end (cut_lines (piece at section)))) ps
      ∙ ap (end_events text (events_after (line_event s) events (map as_piece ls))) es

  pub rules_endless : end ≡ None → (s : Settings) → Suits s flags greatest → (events : List Event) → events_after (line_event s) events (map as_piece ls) ≡ rules_events s text events (Some (as_piece mark))
  rules_endless e s suits events = sym (rules_are s suits events ∙ ap (λ (o : Option Line). end_events text (events_after (line_event s) events (map as_piece ls)) (option_map as_piece o)) e)

  module _ (m : Line) (b : List ℕ) (e : end ≡ Some m) (low : at ≤ m.at) (follows : b ≡ drop ((m.at - at) + 2) section) where
    behind_is : b ≡ drop (m.at + 2) text
    behind_is = follows ∙ ap (drop ((m.at - at) + 2)) here ∙ drop-drop ((m.at - at) + 2) at text ∙ ap (λ (k : ℕ). drop k text) (let same : at + ((m.at - at) + 2) ≡ m.at + 2 = omega arith in same)

    rules_end : (s : Settings) → Suits s flags greatest → (events : List Event) → rules_events s text events (Some (as_piece mark))
        ≡ (if is_white b then events_after (line_event s) events (map as_piece ls) else then_fatal (events_after (line_event s) events (map as_piece ls)) RoutinesNotSupported m.at)
    rules_end s suits events =
        let all = events_after (line_event s) events (map as_piece ls) in
        rules_are s suits events ∙ ap (λ (o : Option Line). end_events text all (option_map as_piece o)) e
        ∙ ap (λ (x : List ℕ). if is_white x then all else then_fatal all RoutinesNotSupported m.at) (sym behind_is)

    pub rules_white : is_white b ≡ true → (s : Settings) → Suits s flags greatest → (events : List Event) → events_after (line_event s) events (map as_piece ls) ≡ rules_events s text events (Some (as_piece mark))
    rules_white h s suits events = sym (rules_end s suits events ∙ rw h refl)

    pub rules_routines : is_white b ≡ false → (s : Settings) → Suits s flags greatest → (events : List Event) → then_fatal (events_after (line_event s) events (map as_piece ls)) RoutinesNotSupported m.at ≡ rules_events s text events (Some (as_piece mark))
    rules_routines h s suits events = sym (rules_end s suits events ∙ rw h refl)

-- ---- declarations
pub stripped : (xs : List Piece) → map (laid_out margins.Trimmed) xs ≡ map trim xs
stripped [] = refl
stripped (x ∷ xs) = ap (λ (ys : List Piece). trim x ∷ ys) (stripped xs)

pub declared_all : (text : List ℕ) (comments : Bool) (flags : LexFlags) (ls : List Line) → comments ≡ unwrap_or flags.allow_wholeline_comments false → map as_piece ls ≡ section_lines comments (map (laid_out margins.Trimmed) (cut_lines (piece 0 text)))
    → flat_map declared_by (map as_piece ls) ≡ declarations (allows_comments flags) text
declared_all text comments flags ls asked said =
    ap (flat_map declared_by) (said ∙ ap (section_lines comments) (stripped (cut_lines (piece 0 text))) ∙ ap (λ (b : Bool). section_lines b (trimmed_lines text)) asked)

pub declared_end : (text : List ℕ) (end : Option Line) → option_map as_piece end ≡ section_end (map (laid_out margins.Trimmed) (cut_lines (piece 0 text))) → option_map as_piece end ≡ section_end (trimmed_lines text)
declared_end text end h = h ∙ ap section_end (stripped (cut_lines (piece 0 text)))
