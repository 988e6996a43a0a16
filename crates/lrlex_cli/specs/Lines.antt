-- The lines that the program writes for the items of a run.
use Rattle.std.specs.Prelude.{ℕ, List, [], ◌∷◌, ◌++◌, take, drop, flat_map, unwrap_or}
use Rattle.lrlex_rules.specs.Definition.{Rule}
use Rattle.lrlex.specs.Errors.{stop_text}
use Rattle.lrlex.specs.Ids.{name_of}
use Rattle.lrlex.specs.Tiling.{Item, Lexeme, Error}

-- the line of a lexeme is its rule's name, a blank and the matched text; the line of an error is the text that it displays
abbrev pub line : List Rule → List ℕ → Item → List ℕ
line rules text (Lexeme id start len faulty) = unwrap_or (name_of rules id) [] ++ 32 ∷ (take len (drop start text) ++ 10 ∷ [])
line rules text (Error start end state) = stop_text start ++ 10 ∷ []

abbrev pub lines : List Rule → List ℕ → List Item → List ℕ
lines rules text items = flat_map (line rules text) items
