use Rattle.std.proofs.Common.{List, subst, sym, ◌∙◌}
use Rattle.lrlex_parser.specs.Event.{Event}
use Rattle.lrlex_parser.specs.LexParser.{Represents}
use Rattle.lrlex_parser.specs.LexErrorKind.{as_kind}
use Rattle.lrlex_parser.proofs.LexParserLemmas.{on_ok}
use Rattle.lrlex_parser.proofs.Whole.{then_fatal_is}
use Rattle.lrlex_parser.proofs.lex_parser.LexParser.refuse_unless_ended.Goals as goal

pub returns-clause-reads : goal.returns-clause-reads
returns-clause-reads g c =
    on_ok c.refuse.result (λ adds flags events was.
    let P : List Event → Type 0 = λ es. Represents g.StorageT.Numbered.number flags c.refuse.new.self es in
    subst P (then_fatal_is events (as_kind c.args.kind) c.args.at (sym was.refused ∙ c.if-self.false)) (adds flags events was)) c.refuse.ensures.adds
