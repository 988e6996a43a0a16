use Rattle.std.proofs.Common.{◌∙◌, [], ◌∷◌, ◌++◌, ap, refl, map}
use Rattle.std.proofs.lemmas.List.{map_push}
use Rattle.lrlex_parser.specs.declared.faults.LexErrorKind.{LexErrorKind}
use Rattle.lrlex_parser.specs.Event.{Fault, fault_at}
use Rattle.lrlex_parser.specs.LexErrorKind.{as_kind, is_regex_error}
use Rattle.lrlex_parser.specs.LexParser.{refused_in, as_fault}
use Rattle.lrlex_parser.proofs.Refusals.{refused_in-push}
use Rattle.lrlex_parser.proofs.LexParserLemmas.{adds_fatal}
use Rattle.lrlex_parser.proofs.Places.{one_fault}
use Rattle.lrlex_parser.proofs.lex_parser.LexParser.refuse.Goals as goal

pub returns-clause-adds : goal.returns-clause-adds
returns-clause-adds g c flags events was =
    adds_fatal g.StorageT.Numbered.number flags c.args.self.now _ events was c.requires.calm (fault_at (as_kind c.args.kind) c.args.at) c.requires.own refl refl refl
    (ap (map as_fault) c.in_ok-push.ensures ∙ map_push as_fault c.args.self.now.faults.list.items _
    ∙ ap (λ (f : Fault). map as_fault c.args.self.now.faults.list.items ++ f ∷ []) (one_fault c.new-2.result c.args.kind _ _ _ _ c.new-2.ensures.kind c.new-2.ensures.spans c.in_ok-spans.ensures.items c.new.ensures.start c.new.ensures.end))

pub returns-clause-keeps : goal.returns-clause-keeps
returns-clause-keeps g c =
    ap refused_in (ap (map as_fault) c.in_ok-push.ensures ∙ map_push as_fault c.args.self.now.faults.list.items _)
    ∙ refused_in-push (map as_fault c.args.self.now.faults.list.items) (as_fault c.new-2.result) (ap (λ (k : LexErrorKind). is_regex_error (as_kind k)) c.new-2.ensures.kind ∙ c.requires.own)
