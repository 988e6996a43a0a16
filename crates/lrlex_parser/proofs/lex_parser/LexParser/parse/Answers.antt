use Rattle.std.proofs.Common.{◌≡◌, List, Some, None, map, subst, sym, ap, ◌∙◌}
use Rattle.std.specs.Option.{option_map}
use Rattle.std.specs.Prelude.{Option}
use Rattle.lrlex_parser.specs.Text.{Piece}
use Rattle.lrlex_rules.specs.Flags.{allows_comments}
use Rattle.lrlex_parser.specs.Declaration.{Declared, state_event, declarations, section_end, trimmed_lines}
use Rattle.lrlex_parser.specs.Outcome.{events_after, rules_events}
use Rattle.lrlex_parser.specs.LexParser.{Represents, as_piece}
use Rattle.lrlex_parser.proofs.LexParserLemmas.{on_ok}
use Rattle.lrlex_parser.proofs.Whole.{declared_all, declared_end}
use Rattle.lrlex_parser.proofs.lex_parser.LexParser.parse.Goals as goal

pub returns-in-Some : goal.returns-in-Some
returns-in-Some g c =
    let flags = c.args.flags.now in
    let all = declared_all c.args.text.now c.allows_comments-comments.result flags c.as_slice.result.now c.allows_comments-comments.ensures (ap (map as_piece) c.as_slice.ensures.value ∙ c.in_ok-declared.ensures.lines) in
    let end : Some (as_piece c.in-Some.mark) ≡ section_end (trimmed_lines c.args.text.now) = ap (option_map as_piece) (sym c.in-Some.is) ∙ declared_end c.args.text.now c.in_ok-declared.declared.end c.in_ok-declared.ensures.end in
    on_ok c.parse_rules.result (λ reads s suits events was same.
    let so_far = c.in_ok-parse_declarations.ensures flags events was in
    let P : Option Piece → Type 0 = λ o. Represents g.StorageT.Numbered.number flags c.parse_rules.new.self (rules_events s c.args.text.now (events_after state_event events (declarations (allows_comments flags) c.args.text.now)) o) in
    let Q : List Declared → Type 0 = λ ds. Represents g.StorageT.Numbered.number flags c.parse_declarations.new.self (events_after state_event events ds) in
    subst P end (reads s suits _ (subst Q all so_far) same)) c.parse_rules.ensures

pub returns : goal.returns
returns g c =
    let flags = c.args.flags.now in
    let all = declared_all c.args.text.now c.allows_comments-comments.result flags c.as_slice.result.now c.allows_comments-comments.ensures (ap (map as_piece) c.as_slice.ensures.value ∙ c.in_ok-declared.ensures.lines) in
    let end : None ≡ section_end (trimmed_lines c.args.text.now) = ap (option_map as_piece) (sym c.in-None.is) ∙ declared_end c.args.text.now c.in_ok-declared.declared.end c.in_ok-declared.ensures.end in
    on_ok c.refuse_unless_ended.result (λ reads s suits events was same.
    let so_far = c.in_ok-parse_declarations.ensures flags events was in
    let P : Option Piece → Type 0 = λ o. Represents g.StorageT.Numbered.number flags c.refuse_unless_ended.new.self (rules_events s c.args.text.now (events_after state_event events (declarations (allows_comments flags) c.args.text.now)) o) in
    let Q : List Declared → Type 0 = λ ds. Represents g.StorageT.Numbered.number flags c.parse_declarations.new.self (events_after state_event events ds) in
    subst P end (reads flags _ (subst Q all so_far))) c.refuse_unless_ended.ensures.reads
