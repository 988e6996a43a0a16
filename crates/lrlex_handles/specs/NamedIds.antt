-- Ids by names, as C gives them.
use Rattle.std.specs.Prelude.{ℕ, Bool, not, List, All, IsUtf8, reverse, option_map}
use Rattle.std.specs.List.{find, list_any}
use Rattle.std.specs.Str.{bytes_eq}
use Rattle.std.specs.declared.option.Option.{Option}
use Rattle.lrlex_rules.specs.Definition.{Rule}
use Rattle.lrlex.specs.Ids.{is_named}
use Rattle.lrlex_handles.specs.declared.structs.NamedId.{NamedId}

-- the id of the last entry with the name
abbrev pub id_by : List NamedId → List ℕ → Option ℕ
id_by entries name = option_map (λ (e : NamedId). e.id) (find (λ (e : NamedId). bytes_eq e.name.now name) (reverse entries))

-- each name is UTF-8
abbrev pub AreNamesUtf8 : List NamedId → Type 0
AreNamesUtf8 entries = All (λ (e : NamedId). IsUtf8 e.name.now) entries

-- no rule has the name
abbrev pub is_missing : List Rule → List ℕ → Bool
is_missing rules name = not (list_any (is_named name) rules)
