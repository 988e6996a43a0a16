-- Edits that fit, and that they can be undone. What is known of a text after an edit, or after its refusal.
use Rattle.std.proofs.Common.{◌≡◌, ℕ, ◌+◌, ◌-◌, List, ◌++◌, Result, Ok, Err, OnOk, OnErr, length, take, drop, slice_range, refl, sym, ap, ap₂, ◌∙◌, subst, arith, append_assoc, length-append, take-append-drop, IsCharBoundary, IsUtf8}
use Rattle.std.proofs.lemmas.List.{drop-drop, drop_at, length-take-le, take_at}
use Rattle.std.proofs.lemmas.Str.{IsCharBoundary-at_seam, IsUtf8-append, IsUtf8-drop}
use Rattle.lrlex_base.specs.Edits.{edited}
use Rattle.lrlex_base.specs.Places.{AreBreaksOf, Breaks}
use Rattle.lrlex_base.specs.LexemeParts.{LexemeParts}
use Rattle.lrlex_base.specs.Spans.{Fits, Span, span}
use Rattle.lrlex_base.specs.declared.spans.Span.{Span as TheSpan}
use Rattle.lrlex_boundaries.specs.Boundaries.{Boundary}
use Rattle.lrlex_positions.specs.Lines.{AreLinesOf}
use Rattle.lrlex_positions.specs.declared.lines.Lines.{Lines}
use Rattle.std.specs.String.{string_bytes}
use Rattle.lrlex.specs.Searches.{asks_by}
use Rattle.lrlex.specs.Document.{IsLexedBy, WasEdited, WasLeft}
use Rattle.lrlex.specs.ItemLaws.{HaveLaws}
use Rattle.lrlex.specs.Lookahead.{LooksAhead}
use Rattle.lrlex_positions.specs.Nearest.{FitsAt}
use Rattle.lrlex.specs.Reach.{IsRun}
use Rattle.lrlex.specs.Relex.{AreCountsOf}
use Rattle.lrlex_definition.specs.RuleTable.{definition_by}
use Rattle.lrlex.specs.Views.{items_by}
use Rattle.lrlex.specs.Work.{IsLinearIn}
use Rattle.lrlex_rules.specs.declared.errors.LRLexError.{LRLexError}
use Rattle.lrlex_definition.specs.declared.rule_table.RuleTable.{RuleTable}
use Rattle.lrlex.specs.declared.editing.document.LexedText.{LexedText}
use Rattle.lrlex.proofs.InPlaceLemmas.{counts_moved}
use Rattle.lrlex.proofs.ItemLemmas.{have_laws}
use Rattle.lrlex.proofs.LinearLemmas.{linear_again}

-- a span that fits, by the numbers of its ends
pub span_fits : (text : List ℕ) (s : TheSpan) (from to : ℕ) → from ≡ s.start → to ≡ s.end → Fits text s → FitsAt text from to
span_fits text s from to a b fits = record {
  in_order = omega (arith, a, b, s.in_order);
  begins = subst (IsCharBoundary text) (sym a) fits.0;
  ends = subst (IsCharBoundary text) (sym b) fits.1;
}

module _ (was put : List ℕ) (from to : ℕ) (fits : FitsAt was from to) where
  front_len : length (take from was) ≡ from
  front_len = length-take-le from was fits.begins.0

  -- the text that was put can be taken out again
  pub edited_fits : IsUtf8 was → IsUtf8 put → FitsAt (edited was (span from to) put) from (from + length put)
  edited_fits was_utf8 put_utf8 =
      let rest : IsUtf8 (drop to was) = IsUtf8-drop was to was_utf8 fits.ends in
      let end : length (take from was ++ put) ≡ from + length put = omega (arith, length-append (take from was) put, front_len) in
      record {
        in_order = omega arith;
        begins = subst (IsCharBoundary (edited was (span from to) put)) front_len
            (IsCharBoundary-at_seam (edited was (span from to) put) (take from was) (put ++ drop to was) refl (IsUtf8-append put (drop to was) put_utf8 rest));
        ends = subst (IsCharBoundary (edited was (span from to) put)) end
            (IsCharBoundary-at_seam (edited was (span from to) put) (take from was ++ put) (drop to was) (sym (append_assoc (take from was) put (drop to was))) rest);
      }

  -- with what stood there that gives the old text
  pub edited_back : (gone : List ℕ) → gone ≡ slice_range was from to → edited (edited was (span from to) put) (span from (from + length put)) gone ≡ was
  edited_back gone is =
      let all = edited was (span from to) put in
      let front : take from all ≡ take from was = take_at (take from was) (put ++ drop to was) from front_len in
      let end : length (take from was ++ put) ≡ from + length put = omega (arith, length-append (take from was) put, front_len) in
      let rest : drop (from + length put) all ≡ drop to was =
      ap (drop (from + length put)) (sym (append_assoc (take from was) put (drop to was))) ∙ drop_at (take from was ++ put) (drop to was) (from + length put) end in
      let n : from + (to - from) ≡ to = omega (arith, fits.in_order) in
      let tail : gone ++ drop to was ≡ drop from was =
      ap₂ ◌++◌ is (ap (λ i. drop i was) (sym n) ∙ sym (drop-drop (to - from) from was)) ∙ take-append-drop (to - from) (drop from was) in
      ap₂ (λ xs ys. xs ++ (gone ++ ys)) front rest ∙ ap (λ ys. take from was ++ ys) tail ∙ take-append-drop from was

-- ---- what is as it was

still_known : {S X : Type 0} (number : S → ℕ) (seen : X → LexemeParts S) (d : RuleTable S) (breaks breaks' : Breaks) (lines lines' : Lines) (text text' : List ℕ) (found found' : List (Result X LRLexError))
    (bounds bounds' : List Boundary) (numbers numbers' : List ℕ) → breaks' ≡ breaks → lines' ≡ lines → text' ≡ text → found' ≡ found → bounds' ≡ bounds → numbers' ≡ numbers →
    AreBreaksOf text breaks × ∥ LooksAhead (definition_by number d) text bounds numbers ∥₁ × ∥ IsRun (definition_by number d) text (items_by number seen found) bounds ∥₁ × AreLinesOf text lines →
    AreBreaksOf text' breaks' × ∥ LooksAhead (definition_by number d) text' bounds' numbers' ∥₁ × ∥ IsRun (definition_by number d) text' (items_by number seen found') bounds' ∥₁ × AreLinesOf text' lines'
still_known number seen d breaks breaks' lines lines' text text' found found' bounds bounds' numbers numbers' is_breaks is_lines is_text is_found is_bounds is_numbers h = rw (is_breaks, is_lines, is_text, is_found, is_bounds, is_numbers) h

-- ---- what a text that was lexed is

pub lexed_anew : {S X : Type 0} (number : S → ℕ) (seen : X → LexemeParts S) (d : RuleTable S) (t : LexedText X) (text : List ℕ) → string_bytes t.text ≡ text → AreBreaksOf text t.newlines → AreLinesOf text t.lines
    → LooksAhead (definition_by number d) text t.lexed.boundaries t.lexed.ahead.items → IsRun (definition_by number d) text (items_by number seen t.lexed.items.items) t.lexed.boundaries → IsLexedBy number seen d t
lexed_anew number seen d t text is breaks lines looks run = rw is (breaks, ∣ looks ∣₁, ∣ run ∣₁, lines)

-- ---- what an edit leaves, and its refusal

module _ {S X : Type 0} (number : S → ℕ) (seen : X → LexemeParts S) (d : RuleTable S) (removed : Span) (put : List ℕ) (old new : LexedText X) where
  pub still_lexed : {A E : Type 0} (r : Result A E) → OnOk r (WasEdited number seen d removed put old new) → OnErr r (WasLeft old new) → IsLexedBy number seen d old → IsLexedBy number seen d new
  still_lexed (Ok x) made kept known = (made.breaks, ∣ made.looks ∣₁, ∣ made.run ∣₁, made.lines)
  still_lexed (Err e) made kept known =
      still_known number seen d old.newlines new.newlines old.lines new.lines (string_bytes old.text) (string_bytes new.text) old.lexed.items.items new.lexed.items.items old.lexed.boundaries new.lexed.boundaries
      old.lexed.ahead.items new.lexed.ahead.items kept.newlines kept.lines kept.text kept.found.items kept.found.boundaries kept.found.ahead known

  pub edited_laws : {A E : Type 0} (r : Result A E) → OnOk r (WasEdited number seen d removed put old new) →
      OnOk r (HaveLaws (definition_by number d) (string_bytes new.text) (items_by number seen new.lexed.items.items) new.lexed.boundaries)
  edited_laws (Ok x) made = have_laws _ _ _ _ made.run
  edited_laws (Err e) made = tt

  pub edited_counts : {A E : Type 0} (r : Result A E) (bounds : List Boundary) (numbers : List ℕ) → OnOk r (WasEdited number seen d removed put old new) →
      old.lexed.boundaries ≡ bounds → old.lexed.ahead.items ≡ numbers →
      OnOk r (AreCountsOf (definition_by number d) (asks_by d (string_bytes new.text)) bounds numbers removed put (string_bytes new.text) new.lexed.boundaries new.lexed.asked new.lexed.recut)
  edited_counts (Ok x) bounds numbers made is_bounds is_numbers = counts_moved (asks_by d) is_bounds is_numbers refl refl made.counts
  edited_counts (Err e) bounds numbers made is_bounds is_numbers = tt

  pub edited_linear : {A E : Type 0} (r : Result A E) → OnOk r (WasEdited number seen d removed put old new) → OnOk r (IsLinearIn d (string_bytes new.text) (length (string_bytes new.text)) new.lexed.looked)
  edited_linear (Ok x) made = linear_again d _ _ _ _ made.recut
  edited_linear (Err e) made = tt
