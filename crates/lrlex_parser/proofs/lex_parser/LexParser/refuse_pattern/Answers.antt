use Rattle.std.proofs.Common.{ap, refl}
use Rattle.lrlex_parser.specs.LexParser.{regex_error}
use Rattle.lrlex_parser.proofs.LexParserLemmas.{adds_refused}
use Rattle.lrlex_parser.proofs.Places.{one_fault}
use Rattle.lrlex_parser.proofs.lex_parser.LexParser.refuse_pattern.Goals as goal

pub returns : goal.returns
returns g c flags pattern why events was =
    adds_refused g.StorageT.Numbered.number flags c.args.self.now _ events was c.requires c.args.at pattern c.args.error c.new-2.result refl refl refl c.in_ok-push.ensures
    (one_fault c.new-2.result _ _ _ _ _ c.new-2.ensures.kind c.new-2.ensures.spans c.in_ok-spans.ensures.items c.new.ensures.start c.new.ensures.end) (ap regex_error c.new-2.ensures.kind) why
