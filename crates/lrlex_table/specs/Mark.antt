-- A match that was found ahead.
use Rattle.std.specs.Prelude.{ℕ}

-- the row of the chain in which it ends, and where it does, in bytes from where marks were looked for
pub record Mark : Type 0 where
  pub row : ℕ
  pub end : ℕ
