use Rattle.std.proofs.Common.{◌-◌, List, length, map, subst, sym, ap, ◌∙◌}
use Rattle.std.specs.Prelude.{Option}
use Rattle.std.specs.Option.{IfSome}
use Rattle.lrlex_parser.specs.declared.text.Line.{Line}
use Rattle.lrlex_parser.specs.Event.{Event}
use Rattle.lrlex_parser.specs.Text.{piece}
use Rattle.lrlex_parser.specs.LexParser.{MarkAt, Represents, as_piece}
use Rattle.lrlex_parser.proofs.Rising.{lines_apart}
use Rattle.lrlex_parser.proofs.Whole.{on_both, section_place, rules_endless, rules_white, rules_routines}
use Rattle.lrlex_parser.proofs.lex_parser.LexParser.parse_rules.Goals as goal

pub parse_lines-requires-clause-apart : goal.parse_lines-requires-clause-apart
parse_lines-requires-clause-apart g c =
    lines_apart c.allows_comments-comments.result (piece (length c.args.text.now - length c.skip_blanks-section.result.now) c.skip_blanks-section.result.now) c.as_slice.result.now (ap (map as_piece) c.as_slice.ensures.value ∙ c.in_ok-rules.ensures.lines)

pub returns-in_default : goal.returns-in_default
returns-in_default g c s suits events was same =
    let flags = c.args.flags.now in
    let at = length c.args.text.now - length c.skip_blanks-section.result.now in
    let spot = section_place c.args.text.now c.args.mark c.after_mark.result.now c.skip_blanks-section.result.now c.after_mark.ensures c.skip_blanks-section.ensures.value c.requires.mark in
    let ls = c.as_slice.result.now in
    let said = ap (map as_piece) c.as_slice.ensures.value ∙ c.in_ok-rules.ensures.lines in
    let P : List Event → Type 0 = λ es. Represents g.StorageT.Numbered.number flags c.parse_lines.new.self es in
    subst P (rules_endless flags g.StorageT.Numbered.greatest c.args.text.now c.skip_blanks-section.result.now at c.args.mark ls c.in_ok-rules.rules.end c.allows_comments-comments.result spot.0 spot.1 c.allows_comments-comments.ensures said c.in_ok-rules.ensures.end c.in_default.is s suits events) (c.in_ok-parse_lines.ensures s suits events was same)

pub returns-then-is_white : goal.returns-then-is_white
returns-then-is_white g c s suits events was same =
    let flags = c.args.flags.now in
    let at = length c.args.text.now - length c.skip_blanks-section.result.now in
    let spot = section_place c.args.text.now c.args.mark c.after_mark.result.now c.skip_blanks-section.result.now c.after_mark.ensures c.skip_blanks-section.ensures.value c.requires.mark in
    let ls = c.as_slice.result.now in
    let said = ap (map as_piece) c.as_slice.ensures.value ∙ c.in_ok-rules.ensures.lines in
    let marked : MarkAt at c.skip_blanks-section.result.now c.in-Some.end = subst (λ (o : Option Line). IfSome o (MarkAt at c.skip_blanks-section.result.now)) c.in-Some.is c.in_ok-rules.ensures.mark in
    let P : List Event → Type 0 = λ es. Represents g.StorageT.Numbered.number flags c.parse_lines.new.self es in
    subst P (rules_white flags g.StorageT.Numbered.greatest c.args.text.now c.skip_blanks-section.result.now at c.args.mark ls c.in_ok-rules.rules.end c.allows_comments-comments.result spot.0 spot.1 c.allows_comments-comments.ensures said c.in_ok-rules.ensures.end c.in-Some.end c.after_mark-routines.result.now c.in-Some.is marked.from c.after_mark-routines.ensures (sym c.is_white.ensures ∙ c.if-is_white.true) s suits events) (c.in_ok-parse_lines.ensures s suits events was same)

pub returns : goal.returns
returns g c =
    let flags = c.args.flags.now in
    let at = length c.args.text.now - length c.skip_blanks-section.result.now in
    let spot = section_place c.args.text.now c.args.mark c.after_mark.result.now c.skip_blanks-section.result.now c.after_mark.ensures c.skip_blanks-section.ensures.value c.requires.mark in
    let ls = c.as_slice.result.now in
    let said = ap (map as_piece) c.as_slice.ensures.value ∙ c.in_ok-rules.ensures.lines in
    let marked : MarkAt at c.skip_blanks-section.result.now c.in-Some.end = subst (λ (o : Option Line). IfSome o (MarkAt at c.skip_blanks-section.result.now)) c.in-Some.is c.in_ok-rules.ensures.mark in
    on_both c.refuse_unless_ended.result (λ reads keeps s suits events was same.
    let P : List Event → Type 0 = λ es. Represents g.StorageT.Numbered.number flags c.refuse_unless_ended.new.self es in
    subst P (rules_routines flags g.StorageT.Numbered.greatest c.args.text.now c.skip_blanks-section.result.now at c.args.mark ls c.in_ok-rules.rules.end c.allows_comments-comments.result spot.0 spot.1 c.allows_comments-comments.ensures said c.in_ok-rules.ensures.end c.in-Some.end c.after_mark-routines.result.now c.in-Some.is marked.from c.after_mark-routines.ensures (sym c.is_white.ensures ∙ c.if-is_white.false) s suits events)
    (reads flags _ (c.in_ok-parse_lines.ensures s suits events was (same ∙ keeps))))
    c.refuse_unless_ended.ensures.reads c.refuse_unless_ended.ensures.keeps
