use Rattle.std.proofs.Common.{◌≡◌, ◌∙◌, Bool, ap, sym, refl, Ok, Err, false}
use Rattle.std.specs.Prelude.{unwrap_or}
use Rattle.lrlex_parser.specs.Event.Event.{Fatal}
use Rattle.lrlex_parser.specs.Escape.{trim_head}
use Rattle.lrlex_parser.specs.RuleLine.{read_pattern}
use Rattle.lrlex_parser.specs.LexParser.{as_states, as_parts, as_pattern, as_fatal, seen}
use Rattle.lrlex_rules.specs.RuleParts.{as_rule}
use Rattle.lrlex_parser.specs.Event.{rules_of}
use Rattle.lrlex_parser.specs.Outcome.{split_event, rule_event}
use Rattle.lrlex_parser.proofs.LexParserLemmas.{on_ok}
use Rattle.lrlex_parser.proofs.RuleEvents.{line_from, line_same, line_duplicate, offered_is, unread_is}
use Rattle.lrlex_parser.proofs.lex_parser.LexParser.parse_rule.Goals as goal

pub returns-in-Some : goal.returns-in-Some
returns-in-Some g c =
    on_ok c.add_duplicate.result (line_duplicate g.StorageT.Numbered.number c.args.flags.now g.StorageT.Numbered.greatest c.args.self.now _ c.args.at (as_parts c.args.parts) (as_rule g.StorageT.Numbered.number c.in-Some.original.now) c.requires c.in-Some.ensures refl refl refl) (rw c.name_span-first.ensures at c.add_duplicate.ensures)

pub returns-in-Ok : goal.returns-in-Ok
returns-in-Ok g c =
    let read : Ok (as_pattern c.in-Ok.pattern) ≡ read_pattern (unwrap_or c.args.flags.now.posix_escapes false) (as_states c.args.self.now.states) c.args.at (trim_head c.args.parts.head.now) =
    sym (ap (seen as_pattern as_fatal) c.in-Ok.is) ∙ c.in_ok-pattern.ensures ∙ ap (λ (b : Bool). read_pattern b (as_states c.args.self.now.states) c.args.at c.trim_head-head.result.now) c.has_posix_escapes-posix.ensures
    ∙ ap (read_pattern (unwrap_or c.args.flags.now.posix_escapes false) (as_states c.args.self.now.states) c.args.at) c.trim_head-head.ensures in
    on_ok c.add_rule.result (line_same g.StorageT.Numbered.number c.args.flags.now g.StorageT.Numbered.greatest c.args.self.now c.add_rule.new.self c.args.at (λ s events. rule_event s (rules_of events) c.args.at (as_parts c.args.parts) (as_pattern c.in-Ok.pattern))
    (λ s events. split_event s events c.args.at (Ok (as_parts c.args.parts)))
    (offered_is g.StorageT.Numbered.number c.args.flags.now g.StorageT.Numbered.greatest c.args.self.now c.args.at (as_parts c.args.parts) c.in_default.ensures (as_pattern c.in-Ok.pattern) read)) c.add_rule.ensures

pub returns-in-Err : goal.returns-in-Err
returns-in-Err g c =
    let read : Err (as_fatal c.in-Err.fatal) ≡ read_pattern (unwrap_or c.args.flags.now.posix_escapes false) (as_states c.args.self.now.states) c.args.at (trim_head c.args.parts.head.now) =
    sym (ap (seen as_pattern as_fatal) c.in-Err.is) ∙ c.in_ok-pattern.ensures ∙ ap (λ (b : Bool). read_pattern b (as_states c.args.self.now.states) c.args.at c.trim_head-head.result.now) c.has_posix_escapes-posix.ensures
    ∙ ap (read_pattern (unwrap_or c.args.flags.now.posix_escapes false) (as_states c.args.self.now.states) c.args.at) c.trim_head-head.ensures in
    on_ok c.refuse.result (line_from g.StorageT.Numbered.number c.args.flags.now g.StorageT.Numbered.greatest c.args.self.now c.refuse.new.self c.args.at (λ s events. split_event s events c.args.at (Ok (as_parts c.args.parts))) (λ events. Fatal (as_fatal c.in-Err.fatal))
    (unread_is g.StorageT.Numbered.number c.args.flags.now g.StorageT.Numbered.greatest c.args.self.now c.args.at (as_parts c.args.parts) c.in_default.ensures (as_fatal c.in-Err.fatal) read)) c.refuse.ensures.adds
