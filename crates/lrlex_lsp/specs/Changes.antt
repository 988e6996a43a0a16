-- One edit of a list, as the protocol tells a change of tokens.
use Rattle.std.specs.Prelude.{ℕ, ◌+◌, List, ◌++◌, take, drop}

-- from `start` on, `removed` elements give way to those of `put`
abbrev pub replaced : {X : Type 0} → List X → ℕ → ℕ → List X → List X
replaced xs start removed put = take start xs ++ (put ++ drop (start + removed) xs)
