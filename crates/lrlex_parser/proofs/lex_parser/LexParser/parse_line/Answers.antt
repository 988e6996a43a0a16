use Rattle.std.proofs.Common.{◌∙◌, sym, Err}
use Rattle.lrlex_parser.specs.LexParser.{as_piece, as_fatal}
use Rattle.lrlex_parser.specs.Outcome.{line_event}
use Rattle.lrlex_parser.specs.Event.{span_of}
use Rattle.lrlex_parser.specs.Event.Event.{Verbatim, Fatal}
use Rattle.lrlex_parser.proofs.LexParserLemmas.{on_ok}
use Rattle.lrlex_parser.proofs.RuleEvents.{line_from, verbatim_is, split_is}
use Rattle.lrlex_parser.proofs.lex_parser.LexParser.parse_line.Goals as goal

pub returns-then-begins_with_white : goal.returns-then-begins_with_white
returns-then-begins_with_white g c =
    on_ok c.add_verbatim.result (line_from g.StorageT.Numbered.number c.args.flags.now g.StorageT.Numbered.greatest c.args.self.now c.add_verbatim.new.self c.args.line.at (λ s events. line_event s events (as_piece c.args.line)) (λ events. Verbatim (span_of (as_piece c.args.line)))
    (λ s suits events was. verbatim_is s events (as_piece c.args.line) (sym c.begins_with_white.ensures ∙ c.if-begins_with_white.true))) c.add_verbatim.ensures

pub returns-in-Err : goal.returns-in-Err
returns-in-Err g c =
    on_ok c.refuse.result (line_from g.StorageT.Numbered.number c.args.flags.now g.StorageT.Numbered.greatest c.args.self.now c.refuse.new.self c.args.line.at (λ s events. line_event s events (as_piece c.args.line)) (λ events. Fatal (as_fatal c.in-Err.fatal))
    (λ s suits events was. split_is g.StorageT.Numbered.number c.args.flags.now c.args.self.now s events (as_piece c.args.line) (Err (as_fatal c.in-Err.fatal)) was (sym c.begins_with_white.ensures ∙ c.if-begins_with_white.false)
    c.in-Err.ensures)) c.refuse.ensures.adds
