use Rattle.lrlex.proofs.PieceLawLemmas.{pieces_of_part, pieces_of_run}
use Rattle.lrlex.proofs.reading.pieces.piece_laws.Goals as goal

pub returns-clause-all : goal.returns-clause-all
returns-clause-all c d text found bounds h pieces are = pieces_of_run d text found bounds h pieces are

pub returns-clause-part : goal.returns-clause-part
returns-clause-part c d text found bounds first pieces run are = pieces_of_part d text found bounds first pieces are run
