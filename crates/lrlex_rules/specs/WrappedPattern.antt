-- What `regex` is given for a pattern.
use Rattle.std.specs.Prelude.{ℕ, ◌++◌, List, codes}

-- it matches from the beginning of the text on
abbrev pub wrapped : List ℕ → List ℕ
wrapped pattern = codes "\\A(?:" ++ (pattern ++ codes ")")
