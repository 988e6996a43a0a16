-- Places of a text that stand for any number.
use Rattle.std.specs.Prelude.{ℕ, ◌<◌, ◌≤◌, List, IsCharBoundary}

-- the greatest character boundary up to the number
pub record IsNearest (text : List ℕ) (n at : ℕ) : Type 0 where
  pub up_to : at ≤ n
  pub boundary : IsCharBoundary text at
  pub greatest : (i : ℕ) → at < i → i ≤ n → ¬ (IsCharBoundary text i)

-- both are character boundaries, in order
pub record FitsAt (text : List ℕ) (from to : ℕ) : Type 0 where
  pub in_order : from ≤ to
  pub begins : IsCharBoundary text from
  pub ends : IsCharBoundary text to
