-- What is in a writer after writing. The bytes of a writer are known or not.
use Rattle.std.specs.Prelude.{◌≡◌, ℕ, List, ◌++◌, ◌<◌, length, take, Option, Result, MatchResult}
use Rattle.std.specs.Io.KnownBytes.{Appends}

-- known bytes grow by a proper prefix of bs
abbrev pub AppendsFront : Option (List ℕ) → Option (List ℕ) → List ℕ → Type 0
AppendsFront old new bs = (n : ℕ) × (n < length bs) × Appends old new (take n bs)

-- `Ok` has written bs, an error a proper prefix of bs
abbrev pub Writes : {T E : Type 0} → Option (List ℕ) → Option (List ℕ) → Result T E → List ℕ → Type 0
Writes old new r bs = MatchResult r (λ _. Appends old new bs) (λ _. AppendsFront old new bs)

-- some beginning of bs was written, or all
abbrev pub WritesSome : Option (List ℕ) → Option (List ℕ) → List ℕ → Type 0
WritesSome old new bs = (n : ℕ) × Appends old new (take n bs)

-- of bs all was written but what waits at its end
abbrev pub WritesUpTo : Option (List ℕ) → Option (List ℕ) → (bs waiting : List ℕ) → Type 0
WritesUpTo old new bs waiting = (front : List ℕ) × Appends old new front × (front ++ waiting ≡ bs)

-- `Ok` has written bs but for what waits at its end, an error a proper prefix of bs
abbrev pub Passes : {T E : Type 0} → Option (List ℕ) → Option (List ℕ) → Result T E → (bs waiting : List ℕ) → Type 0
Passes old new r bs waiting = MatchResult r (λ _. WritesUpTo old new bs waiting) (λ _. AppendsFront old new bs)
