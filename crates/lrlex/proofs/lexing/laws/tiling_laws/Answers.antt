use Rattle.lrlex.proofs.RestLemmas.{one_way, rest_tiling, rest_items}
use Rattle.lrlex.proofs.lexing.laws.tiling_laws.Goals as goal

pub returns : goal.returns
returns c = record {
  one = λ d text stack. one_way d text stack;
  rest = λ d text found bounds h k m at. rest_tiling d text found bounds h k m at;
  moved = λ d text found bounds h k m at. rest_items d text found bounds h k m at;
}
