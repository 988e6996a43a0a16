-- The sections of a rule text, as they are read.
use Rattle.std.proofs.Common.{◌≡◌, ℕ, ◌+◌, ◌-◌, ◌≤◌, Bool, true, false, List, [], length, drop, map, Option, Some, None, refl, sym, ap, ◌∙◌, arith}
use Rattle.std.specs.Option.{option_map}
use Rattle.std.proofs.lemmas.List.{drop-drop}
use Rattle.lrlex_parser.specs.declared.text.Margins.TheVariants as margins
use Rattle.lrlex_parser.specs.declared.text.Line.{Line}
use Rattle.lrlex_parser.specs.Text.{Piece, piece, is_white, cut_lines}
use Rattle.lrlex_parser.specs.Event.{fault_at}
use Rattle.lrlex_parser.specs.Event.FaultKind.{PrematureEnd, RoutinesNotSupported}
use Rattle.lrlex_parser.specs.Declaration.{section_lines, section_end, trimmed_lines}
use Rattle.lrlex_parser.specs.Outcome.{rules_section}
use Rattle.lrlex_parser.specs.AllFaults.{declared_lines, lines_after, rule_lines, routines_fault, fault_after, text_fault}
use Rattle.lrlex_parser.specs.LexParser.{as_piece, laid_out}
use Rattle.lrlex_parser.proofs.Rising.{as_written}
use Rattle.lrlex_parser.proofs.Whole.{stripped, declared_end}

pub declared_are : (comments : Bool) (text : List ℕ) (ls : List Line) → map as_piece ls ≡ section_lines comments (map (laid_out margins.Trimmed) (cut_lines (piece 0 text))) → map as_piece ls ≡ declared_lines comments text
declared_are comments text ls said = said ∙ ap (section_lines comments) (stripped (cut_lines (piece 0 text)))

module _ (text : List ℕ) (end : Option Line) (ended : option_map as_piece end ≡ section_end (map (laid_out margins.Trimmed) (cut_lines (piece 0 text)))) where
  mark_is : (o : Option Line) → end ≡ o → section_end (trimmed_lines text) ≡ option_map as_piece o
  mark_is o e = sym (declared_end text end ended) ∙ ap (option_map as_piece) e

  pub no_rules : (comments : Bool) → end ≡ None → [] ≡ rule_lines comments text
  no_rules comments e = sym (ap (lines_after comments text) (mark_is None e))

  pub no_mark : end ≡ None → Some (fault_at PrematureEnd (length text)) ≡ text_fault text
  no_mark e = sym (ap (fault_after text) (mark_is None e))

  module _ (mark : Line) (is : end ≡ Some mark) (section : List ℕ) (at : ℕ) (place : piece at section ≡ rules_section text (as_piece mark)) where
    pub rules_are : (comments : Bool) (ls : List Line) → map as_piece ls ≡ section_lines comments (map (laid_out margins.Kept) (cut_lines (piece at section))) → map as_piece ls ≡ rule_lines comments text
    rules_are comments ls said =
        said ∙ ap (section_lines comments) (as_written (cut_lines (piece at section))) ∙ ap (λ (p : Piece). section_lines comments (cut_lines p)) place ∙ sym (ap (lines_after comments text) (mark_is (Some mark) is))

    pub fault_is : (last : Option Line) → option_map as_piece last ≡ section_end (map (laid_out margins.Kept) (cut_lines (piece at section))) → routines_fault text (option_map as_piece last) ≡ text_fault text
    fault_is last said =
        ap (routines_fault text) (said ∙ ap section_end (as_written (cut_lines (piece at section))) ∙ ap (λ (p : Piece). section_end (cut_lines p)) place) ∙ sym (ap (fault_after text) (mark_is (Some mark) is))

-- text after the mark
pub behind_is : (text section after : List ℕ) (at : ℕ) (mark : Line) → at ≤ mark.at → section ≡ drop at text → after ≡ drop ((mark.at - at) + 2) section → after ≡ drop (mark.at + 2) text
behind_is text section after at mark low here follows =
    follows ∙ ap (drop ((mark.at - at) + 2)) here ∙ drop-drop ((mark.at - at) + 2) at text ∙ ap (λ (k : ℕ). drop k text) (let same : at + ((mark.at - at) + 2) ≡ mark.at + 2 = omega arith in same)

pub routines_white : (text after : List ℕ) (mark : Line) → after ≡ drop (mark.at + 2) text → is_white after ≡ true → None ≡ routines_fault text (Some (as_piece mark))
routines_white text after mark e h =
    let w : is_white (drop (mark.at + 2) text) ≡ true = sym (ap is_white e) ∙ h in
    sym (rw w refl)

pub routines_more : (text after : List ℕ) (mark : Line) → after ≡ drop (mark.at + 2) text → is_white after ≡ false → Some (fault_at RoutinesNotSupported mark.at) ≡ routines_fault text (Some (as_piece mark))
routines_more text after mark e h =
    let w : is_white (drop (mark.at + 2) text) ≡ false = sym (ap is_white e) ∙ h in
    sym (rw w refl)
