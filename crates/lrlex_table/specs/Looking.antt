-- What looking for matches ahead leaves as it is.
use Rattle.std.specs.Prelude.{◌≡◌}
use Rattle.lrlex_table.specs.declared.dead_ends.DeadEnds.{DeadEnds}

-- the same dead ends are known, as many cells were looked at, and the chain is the same
pub record HasSameEnds (old new : DeadEnds) : Type 0 where
  pub known : new.known ≡ old.known
  pub forgot : new.forgot ≡ old.forgot
  pub looked : new.looked ≡ old.looked
  pub chain : new.chain ≡ old.chain
