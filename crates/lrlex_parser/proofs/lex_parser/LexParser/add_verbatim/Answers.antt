use Rattle.std.proofs.Common.{◌∙◌, [], ◌∷◌, ◌++◌, ap, refl, map}
use Rattle.std.proofs.lemmas.List.{map_push}
use Rattle.lrlex_parser.specs.Event.{Fault, span_of}
use Rattle.lrlex_parser.specs.LexParser.{as_fault, as_piece}
use Rattle.lrlex_parser.proofs.LexParserLemmas.{adds_verbatim}
use Rattle.lrlex_parser.proofs.Places.{one_fault}
use Rattle.lrlex_parser.proofs.lex_parser.LexParser.add_verbatim.Goals as goal

pub returns : goal.returns
returns g c flags events was =
    adds_verbatim g.StorageT.Numbered.number flags c.args.self.now _ events was c.requires.calm (span_of (as_piece c.args.line)) refl refl refl
    (ap (map as_fault) c.in_ok-push.ensures ∙ map_push as_fault c.args.self.now.faults.list.items _
    ∙ ap (λ (f : Fault). map as_fault c.args.self.now.faults.list.items ++ f ∷ []) (one_fault c.new.result _ _ _ _ _ c.new.ensures.kind c.new.ensures.spans c.in_ok-spans.ensures.items c.new-span.ensures.start c.new-span.ensures.end))
