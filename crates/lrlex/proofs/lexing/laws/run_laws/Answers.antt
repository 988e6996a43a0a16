use Rattle.lrlex.proofs.PeakLemmas.{tiles_are, peak_is, peak_few}
use Rattle.lrlex.proofs.lexing.laws.run_laws.Goals as goal

pub returns : goal.returns
returns c = record {
  tiles = λ d text found bounds h. tiles_are d text found bounds h;
  peak = λ d text found bounds h. peak_is d text found bounds h;
  few = λ d text found bounds h. peak_few d text found bounds h;
}
