use Rattle.lrlex.proofs.ItemLemmas.{have_laws}
use Rattle.lrlex.proofs.lexing.laws.item_laws.Goals as goal

pub returns : goal.returns
returns c d text found bounds run = have_laws d text found bounds run
