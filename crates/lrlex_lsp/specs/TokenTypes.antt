-- The token types of the protocol (3.17).
use Rattle.std.specs.Prelude.{ℕ, List, [], ◌∷◌, Option, codes, position, bytes_eq}

-- their names, in its order
unfoldable pub type_names : List (List ℕ)
type_names =
    codes "namespace" ∷ codes "type" ∷ codes "class" ∷ codes "enum" ∷ codes "interface" ∷ codes "struct" ∷ codes "typeParameter"
    ∷ codes "parameter" ∷ codes "variable" ∷ codes "property" ∷ codes "enumMember" ∷ codes "event" ∷ codes "function" ∷ codes "method"
    ∷ codes "macro" ∷ codes "keyword" ∷ codes "modifier" ∷ codes "comment" ∷ codes "string" ∷ codes "number" ∷ codes "regexp"
    ∷ codes "operator" ∷ codes "decorator" ∷ []

-- the number of the type of this name: its place among them, from 0
abbrev pub type_named : (name : List ℕ) → Option ℕ
type_named name = position (λ known. bytes_eq known name) type_names
