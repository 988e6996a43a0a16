use Rattle.std.proofs.Common.{◌≤◌, arith, ◌+◌, ◌++◌, ◌∷◌, [], ◌∙◌, ap, sym, List, length, map, Some}
use Rattle.std.specs.Option.{option_copied}
use Rattle.std.proofs.lemmas.List.{map_push}
use Rattle.lrlex_parser.specs.Text.{Piece, lines_left}
use Rattle.lrlex_parser.specs.Declaration.{section_lines, ends_section, is_skipped}
use Rattle.lrlex_parser.specs.LexParser.{as_piece, line_end, laid_out}
use Rattle.lrlex_parser.proofs.Marks.{suffix_here, suffix_more, mark_here}
use Rattle.lrlex_parser.proofs.Ends.{ends_push}
use Rattle.lrlex_parser.proofs.SectionLemmas.{section_done, section_skipped, section_said, mark_found, mark_later, still_short, rest_short}
use Rattle.lrlex_parser.proofs.text.read_section.Goals as goal

pub returns-then-ends_section-clause-lines : goal.returns-then-ends_section-clause-lines
returns-then-ends_section-clause-lines c =
    let tested = ap (λ (x : Piece). ends_section x.text) (sym c.laid_out-line.ensures.value) in
    section_done (laid_out c.args.margins) _ _ _ _ _ (ap option_copied c.in-Some.is) c.loop-left.invariant.short c.next_line.ensures.pieces _ _ _ c.loop-left.invariant.said (tested ∙ sym c.ends_section.ensures ∙ c.if-ends_section.true)

pub returns-then-ends_section-clause-end : goal.returns-then-ends_section-clause-end
returns-then-ends_section-clause-end c =
    let tested = ap (λ (x : Piece). ends_section x.text) (sym c.laid_out-line.ensures.value) in
    ap Some c.laid_out-line.ensures.value ∙ mark_found (laid_out c.args.margins) _ _ _ _ _ (ap option_copied c.in-Some.is) c.loop-left.invariant.short c.next_line.ensures.pieces _ c.loop-left.invariant.ended (tested ∙ sym c.ends_section.ensures ∙ c.if-ends_section.true)

pub loop-left-preserved-in_ok-push : goal.loop-left-preserved-in_ok-push
loop-left-preserved-in_ok-push c =
    let is = ap option_copied c.in-Some.is in
    let on = ap (λ (x : Piece). ends_section x.text) (sym c.laid_out-line.ensures.value) ∙ sym c.ends_section.ensures ∙ c.if-ends_section.false in
    let says = ap (λ (x : Piece). is_skipped c.args.comments x.text) (sym c.laid_out-line.ensures.value) in
    record {
      said = let h = c.if-not-is_skipped.true in ap (λ (x : List Piece). x ++ section_lines c.args.comments (map (laid_out c.args.margins) (lines_left (c.args.at + length c.args.text.now) (option_copied c.next_line.result.1))))
          (ap (map as_piece) c.in_ok-push.ensures.items ∙ map_push as_piece c.loop-left.lines.items _ ∙ ap (λ (x : Piece). map as_piece c.loop-left.lines.items ++ x ∷ []) c.laid_out-line.ensures.value)
          ∙ section_said (laid_out c.args.margins) _ _ _ _ _ is c.loop-left.invariant.short c.next_line.ensures.pieces _ _ _ c.loop-left.invariant.said on (says ∙ sym c.is_skipped.ensures ∙ h);
      ended = mark_later (laid_out c.args.margins) _ _ _ _ _ is c.loop-left.invariant.short c.next_line.ensures.pieces _ c.loop-left.invariant.ended on;
      fit =
          let short : length c.in-Some.rest.now ≤ c.args.at + length c.args.text.now = rest_short (laid_out c.args.margins) _ _ _ _ _ is c.loop-left.invariant.short c.next_line.ensures.pieces in
          let within = c.next_line.ensures.within in
          let to = c.laid_out-line.ensures.stands.to in
          let here : line_end c.laid_out-line.result ≤ c.args.at + length c.args.text.now = omega arith in
          ends_push _ c.loop-left.lines.items _ c.laid_out-line.result c.in_ok-push.ensures.items c.loop-left.invariant.fit here;
      suffix = suffix_more c.args.text.now c.in-Some.rest.now _ (suffix_here c.args.text.now _ c.in-Some.rest.now is c.loop-left.invariant.suffix) c.next_line.ensures.shorter c.next_line.ensures.back;
      short = still_short _ _ _ (rest_short (laid_out c.args.margins) _ _ _ _ _ is c.loop-left.invariant.short c.next_line.ensures.pieces) c.next_line.ensures.shorter;
    }

pub loop-left-preserved : goal.loop-left-preserved
loop-left-preserved c =
    let is = ap option_copied c.in-Some.is in
    let on = ap (λ (x : Piece). ends_section x.text) (sym c.laid_out-line.ensures.value) ∙ sym c.ends_section.ensures ∙ c.if-ends_section.false in
    let says = ap (λ (x : Piece). is_skipped c.args.comments x.text) (sym c.laid_out-line.ensures.value) in
    let h = c.if-not-is_skipped.false in
    record {
      said = section_skipped (laid_out c.args.margins) _ _ _ _ _ is c.loop-left.invariant.short c.next_line.ensures.pieces _ _ _ c.loop-left.invariant.said on (says ∙ sym c.is_skipped.ensures ∙ h);
      ended = mark_later (laid_out c.args.margins) _ _ _ _ _ is c.loop-left.invariant.short c.next_line.ensures.pieces _ c.loop-left.invariant.ended on;
      fit = c.loop-left.invariant.fit;
      suffix = suffix_more c.args.text.now c.in-Some.rest.now _ (suffix_here c.args.text.now _ c.in-Some.rest.now is c.loop-left.invariant.suffix) c.next_line.ensures.shorter c.next_line.ensures.back;
      short = still_short _ _ _ (rest_short (laid_out c.args.margins) _ _ _ _ _ is c.loop-left.invariant.short c.next_line.ensures.pieces) c.next_line.ensures.shorter;
    }

pub laid_out-line-requires : goal.laid_out-line-requires
laid_out-line-requires c =
    let short : length c.in-Some.rest.now ≤ c.args.at + length c.args.text.now = rest_short (laid_out c.args.margins) _ _ _ _ _ (ap option_copied c.in-Some.is) c.loop-left.invariant.short c.next_line.ensures.pieces in
    let within = c.next_line.ensures.within in
    omega (arith, c.requires)

pub returns-then-ends_section-clause-mark : goal.returns-then-ends_section-clause-mark
returns-then-ends_section-clause-mark c =
    mark_here c.args.at c.args.text.now c.in-Some.rest.now c.next_line.result.0.now c.laid_out-line.result (suffix_here c.args.text.now _ c.in-Some.rest.now (ap option_copied c.in-Some.is) c.loop-left.invariant.suffix)
    c.next_line.ensures.front c.next_line.ensures.within c.laid_out-line.ensures.stands (sym c.ends_section.ensures ∙ c.if-ends_section.true)
