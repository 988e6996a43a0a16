-- What contracts see of the token map's types.
use Rattle.std.specs.Prelude.{ℕ, List, Option, Result, Ok, Err, String, map, option_and_then, option_map}
use Rattle.std.specs.Borrow.{Bor}
use Rattle.std.specs.String.{string_bytes}
use Rattle.std.specs.Str.{bytes_eq}
use Rattle.std.specs.HashMap as hash
use Rattle.std.specs.HashMap.{HashMap}
use Rattle.lrlex_tokens.specs.TokenModule.{Token, ModuleFault, BadModuleName, BadTypeName, BadTokenName, SameConstant}
use Rattle.lrlex_tokens.specs.declared.tokens.Token.{Token as TheToken}
use Rattle.lrlex_tokens.specs.declared.token_map_fault.TokenMapFault.{TokenMapFault}
use Rattle.lrlex_tokens.specs.declared.token_map_fault.TokenMapFault.TheVariants as fault

abbrev pub token_view : {Z : Type 0} → TheToken Z → Token
token_view t = record { name = string_bytes t.name; shown = string_bytes t.shown; id = string_bytes t.id }

abbrev pub fault_view : {Z : Type 0} → TokenMapFault Z → ModuleFault
fault_view fault.BadModuleName = BadModuleName
fault_view fault.BadTypeName = BadTypeName
fault_view (fault.BadTokenName name) = BadTokenName (string_bytes name)
fault_view (fault.SameConstant name) = SameConstant (string_bytes name)

-- what `build` answers
abbrev pub written : {Z : Type 0} → Result (String Z) (TokenMapFault Z) → Result (List ℕ) ModuleFault
written (Ok text) = Ok (string_bytes text)
written (Err f) = Err (fault_view f)

-- the entries of a map of tokens, with the bytes of their names
abbrev pub entries_of : {S Z H : Type 0} → HashMap (String Z) S H → List (List ℕ × S)
entries_of m = map (λ e. (string_bytes e.0, e.1)) m.entries

-- what a map of renames has for a name
abbrev pub look_up : {H : Type 0} → Option (Bor (HashMap (Bor (List ℕ)) (Bor (List ℕ)) H)) → List ℕ → Option (List ℕ)
look_up renames name = option_and_then (λ m. option_map (λ v. v.now) (hash.get_by (λ k. bytes_eq name k.now) m.now)) renames
