-- The Rust module that names token ids.
use Rattle.std.specs.Prelude.{ℕ, Bool, false, not, ◌≡◌, ◌&&◌, ◌||◌, ◌==◌, if◌then◌else◌, List, [], ◌∷◌, ◌++◌, codes, map, All, Contains, IfSome, Option, Some, None, Result, Ok, Err, IsPermutation, IsSortedByKey, unwrap_or}
use Rattle.std.specs.Ordering.{nat_cmp}
use Rattle.std.specs.Cmp.Lexicographic.{slice_cmp}
use Rattle.std.specs.Option.{option_or, option_map_or}
use Rattle.std.specs.List.{list_all, list_any, flat_map, join_by}
use Rattle.std.specs.Char.{to_ascii_uppercase}
use Rattle.std.specs.Str.{chars, bytes_eq}
use Rattle.unicode_ident.specs.Ident.{is_xid_start, is_xid_continue}

-- why no module is written; a token's fault has the token's own name
pub data ModuleFault : Type 0 where
  BadModuleName : ModuleFault
  BadTypeName : ModuleFault
  BadTokenName : List ℕ → ModuleFault
  SameConstant : List ℕ → ModuleFault

-- the text of a fault
abbrev pub fault_text : ModuleFault → List ℕ
fault_text BadModuleName = codes "Module name is not an identifier"
fault_text BadTypeName = codes "Type name is not an identifier"
fault_text (BadTokenName name) = codes "Constant of token '" ++ (name ++ codes "' is not an identifier")
fault_text (SameConstant name) = codes "Constant of token '" ++ (name ++ codes "' is that of an earlier token")

-- a token: its own name, the name that it goes by, and its id as text
pub record Token : Type 0 where
  pub name : List ℕ
  pub shown : List ℕ
  pub id : List ℕ

-- what a module is made of; the tokens are in the byte order of their own names
pub record Module : Type 0 where
  pub mod_name : List ℕ
  pub type_name : List ℕ
  pub tokens : List Token
  pub dead_code : Bool

-- an identifier: `_` (0x5F) or XID_Start, then XID_Continue, and not `_` alone (Unicode's default identifiers; the Rust reference)
abbrev pub is_identifier_chars : List ℕ → Bool
is_identifier_chars [] = false
is_identifier_chars (c ∷ []) = is_xid_start c
is_identifier_chars (c ∷ d ∷ cs) = (is_xid_start c || (c == 0x5F)) && list_all is_xid_continue (d ∷ cs)

abbrev pub is_identifier : List ℕ → Bool
is_identifier name = is_identifier_chars (chars name)

-- a token's constant
abbrev pub constant_of : Token → List ℕ
constant_of token = codes "T_" ++ map to_ascii_uppercase token.shown

-- what is wrong with a token after the earlier ones: a character that no identifier goes on with, or an earlier one's constant
abbrev pub token_fault : List Token → Token → Option ModuleFault
token_fault earlier token =
    if not (list_all is_xid_continue (chars token.shown)) then Some (BadTokenName token.name)
    else (if list_any (bytes_eq (constant_of token)) (map constant_of earlier) then Some (SameConstant token.name) else None)

-- the first fault of the tokens after the earlier ones
abbrev pub first_fault : List Token → List Token → Option ModuleFault
first_fault earlier [] = None
first_fault earlier (token ∷ tokens) = option_or (token_fault earlier token) (first_fault (earlier ++ token ∷ []) tokens)

-- the first fault of a module: its name's, its type's, then the tokens'
abbrev pub module_fault : Module → Option ModuleFault
module_fault m =
    if not (is_identifier m.mod_name) then Some BadModuleName
    else (if not (is_identifier m.type_name) then Some BadTypeName else first_fault [] m.tokens)

-- the module's lines
abbrev pub constant_line : List ℕ → Token → List ℕ
constant_line type token = codes "    pub const " ++ (constant_of token ++ (codes ": " ++ (type ++ (codes " = " ++ (token.id ++ codes ";\n")))))

abbrev pub module_lines : Module → List ℕ
module_lines m =
    (if m.dead_code then codes "#[allow(dead_code)]\n" else [])
    ++ (codes "mod " ++ (m.mod_name ++ (codes " {\n" ++ (flat_map (constant_line m.type_name) m.tokens
    ++ (codes "    #[allow(dead_code)]\n    pub const TOK_IDS: &[" ++ (m.type_name ++ (codes "] = &[" ++ (join_by (λ (t : Token). t.id) (codes ", ") m.tokens ++ codes "];\n}\n"))))))))

-- the module's text, or its first fault
abbrev pub module_text : Module → Result (List ℕ) ModuleFault
module_text m = option_map_or Err (module_fault m) (Ok (module_lines m))

-- the token of an entry of the map of tokens, named by its own name; a Display that states nothing leaves the id's text open
abbrev pub IsTokenOf : {S : Type 0} → (S → Option (List ℕ)) → List (List ℕ × S) → Token → Type 0
IsTokenOf {S} output entries t = (id : S) × Contains entries (t.name, id) × IfSome (output id) (λ text. t.id ≡ text) × (t.shown ≡ t.name)

-- the tokens of such a map, each once, in the byte order of their names
pub record AreTokensOf {S : Type 0} (output : S → Option (List ℕ)) (entries : List (List ℕ × S)) (tokens : List Token) : Type 0 where
  pub each : All (IsTokenOf output entries) tokens
  pub once : IsPermutation (map (λ e. e.0) entries) (map (λ t. t.name) tokens)
  pub in_order : IsSortedByKey (λ t. t.name) (slice_cmp nat_cmp) tokens

-- a token under the name that a look-up has for it, or its own
abbrev pub renamed : (List ℕ → Option (List ℕ)) → Token → Token
renamed look_up t = record { name = t.name; shown = unwrap_or (look_up t.name) t.name; id = t.id }
