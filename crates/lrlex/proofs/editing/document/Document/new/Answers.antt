use Rattle.lrlex.proofs.DocumentLemmas.{lexed_anew}
use Rattle.lrlex.proofs.ItemLemmas.{have_laws}
use Rattle.lrlex.proofs.editing.document.Document.new.Goals as goal

pub invariant_of-result : goal.invariant_of-result
invariant_of-result g c =
    let found = c.in_ok-held.ensures in
    lexed_anew g.L.StorageT.Numbered.number g.L.LexemeT.Lexeme.seen c.args.definition.now.table c.in_ok-held.held c.args.text.now found.text found.breaks found.lines found.looks found.run

pub returns-clause-laws : goal.returns-clause-laws
returns-clause-laws g c = have_laws _ _ _ _ c.in_ok-held.ensures.run
