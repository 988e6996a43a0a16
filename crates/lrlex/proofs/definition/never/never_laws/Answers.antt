use Rattle.lrlex.proofs.NeverRunLemmas.{no_tile_of, never_entered, inactive_never}
use Rattle.lrlex.proofs.definition.never.never_laws.Goals as goal

pub returns : goal.returns
returns c = record {
  tiles = λ d k never initial text is ts e tiling. no_tile_of d k never initial text is ts e tiling;
  entered = λ d q other none place ts. never_entered d q other none place ts;
  inactive = λ d k none. inactive_never d k none;
}
