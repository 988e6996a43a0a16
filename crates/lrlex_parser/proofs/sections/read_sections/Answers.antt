use Rattle.std.proofs.Common.{◌∙◌, ◌-◌, length, subst}
use Rattle.std.specs.Prelude.{Option}
use Rattle.std.specs.Option.{IfSome}
use Rattle.lrlex_parser.specs.declared.text.Line.{Line}
use Rattle.lrlex_parser.specs.Text.{piece}
use Rattle.lrlex_parser.specs.LexParser.{MarkAt}
use Rattle.lrlex_parser.proofs.Rising.{lines_apart}
use Rattle.lrlex_parser.proofs.Whole.{section_place}
use Rattle.lrlex_parser.proofs.WholeSections.{rules_are, fault_is}
use Rattle.lrlex_parser.proofs.sections.read_sections.Goals as goal

pub returns-clause-rules : goal.returns-clause-rules
returns-clause-rules c =
    let at = length c.args.text.now - length c.skip_blanks-section.result.now in
    let marked : MarkAt 0 c.args.text.now c.in-Some.mark = subst (λ (o : Option Line). IfSome o (MarkAt 0 c.args.text.now)) c.in-Some.is c.in_ok-declared.ensures.mark in
    let spot = section_place c.args.text.now c.in-Some.mark c.after_mark.result.now c.skip_blanks-section.result.now c.after_mark.ensures c.skip_blanks-section.ensures.value marked in
    rules_are c.args.text.now c.in_ok-declared.declared.end c.in_ok-declared.ensures.end c.in-Some.mark c.in-Some.is c.skip_blanks-section.result.now at spot.0 c.args.comments c.in_ok-rules.rules.lines.items c.in_ok-rules.ensures.lines

pub returns-clause-fault : goal.returns-clause-fault
returns-clause-fault c =
    let at = length c.args.text.now - length c.skip_blanks-section.result.now in
    let marked : MarkAt 0 c.args.text.now c.in-Some.mark = subst (λ (o : Option Line). IfSome o (MarkAt 0 c.args.text.now)) c.in-Some.is c.in_ok-declared.ensures.mark in
    let spot = section_place c.args.text.now c.in-Some.mark c.after_mark.result.now c.skip_blanks-section.result.now c.after_mark.ensures c.skip_blanks-section.ensures.value marked in
    c.routines_fault-fault.ensures c.args.text.now spot.1
    ∙ fault_is c.args.text.now c.in_ok-declared.declared.end c.in_ok-declared.ensures.end c.in-Some.mark c.in-Some.is c.skip_blanks-section.result.now at spot.0 c.in_ok-rules.rules.end c.in_ok-rules.ensures.end

pub returns-clause-apart : goal.returns-clause-apart
returns-clause-apart c =
    lines_apart c.args.comments (piece (length c.args.text.now - length c.skip_blanks-section.result.now) c.skip_blanks-section.result.now) c.in_ok-rules.rules.lines.items c.in_ok-rules.ensures.lines
