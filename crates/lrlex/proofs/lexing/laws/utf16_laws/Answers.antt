use Rattle.lrlex_positions.proofs.Utf16Lemmas.{units_encode, units_fit}
use Rattle.lrlex.proofs.lexing.laws.utf16_laws.Goals as goal

pub returns : goal.returns
returns c = record { encoded = λ cs. units_encode cs; few = λ text utf8. units_fit text utf8 }
