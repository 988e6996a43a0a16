use Rattle.lrlex.proofs.ItemLemmas.{have_laws}
use Rattle.lrlex.proofs.definition.non_streaming.LRNonStreamingLexerDef.run.Goals as goal

pub returns-clause-laws : goal.returns-clause-laws
returns-clause-laws g c = have_laws _ _ _ _ c.in_ok-lexed.ensures.run
