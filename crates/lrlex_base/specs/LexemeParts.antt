-- What can be seen of a lexeme.
use Rattle.std.specs.Prelude.{ℕ, Bool}

-- the id of its token, the offset of its first byte, how many bytes it has, and whether error recovery made it up
pub record LexemeParts (S : Type 0) : Type 0 where
  pub id : S
  pub start : ℕ
  pub len : ℕ
  pub faulty : Bool
