-- What URIs name: files of this machine, by their paths.
use Rattle.std.specs.Prelude.{◌≡◌, ℕ, ◌==◌, ◌||◌, Bool, List, [], ◌∷◌, ◌++◌, Option, Some, None, codes, drop, fold, length, nat_eq, bytes_eq, take, unwrap_or, if◌then◌else◌}
use Rattle.std.specs.Char.{is_ascii_alphanumeric}
use Rattle.std.specs.List.{before_last, flat_map, list_any, slice_split, starts_with}
use Rattle.std.specs.Option.{option_and_then, option_map_or}
use Rattle.std.specs.Str.{str_eq_ignore_ascii_case}
use Rattle.percent_encoding.specs.Percent.{percent_decode, percent_encode_byte}

-- the byte of a path stands in a URI as it is: letters, digits and `/-._~`
abbrev pub is_kept : ℕ → Bool
is_kept byte = is_ascii_alphanumeric byte || list_any (nat_eq byte) (codes "/-._~")

-- the path with a percent escape for each other byte
abbrev pub escaped : (path : List ℕ) → List ℕ
escaped path = flat_map (λ byte. if is_kept byte then byte ∷ [] else percent_encode_byte byte) path

-- what is behind this beginning, in letters of either case, if the text has it
abbrev pub behind : (beginning text : List ℕ) → Option (List ℕ)
behind beginning text = if str_eq_ignore_ascii_case (take (length beginning) text) beginning then Some (drop (length beginning) text) else None

-- the path begins at the root
abbrev pub is_absolute : (path : List ℕ) → Bool
is_absolute path = starts_with nat_eq path (codes "/")

-- the path behind `file:`: at once, or behind `//` and the name of this machine, which is `localhost` or nothing
abbrev pub local : (rest : List ℕ) → List ℕ
local rest = option_map_or (λ host. unwrap_or (behind (codes "localhost") host) host) (behind (codes "//") rest) rest

-- the path that a URI names on this machine, once its percent escapes are read
abbrev pub path_of : (uri : List ℕ) → Option (List ℕ)
path_of uri = option_and_then (λ rest. if is_absolute (local rest) then Some (local rest) else None) (behind (codes "file:") uri)

-- the byte is `/`
abbrev pub is_slash : ℕ → Bool
is_slash byte = byte == 47

-- where one more part leads from a path: up by `..`, nowhere by `.` and an empty part, and else down to that name
abbrev pub led_to : (path part : List ℕ) → List ℕ
led_to path part =
    if bytes_eq part [] || bytes_eq part (codes ".") then path
    else if bytes_eq part (codes "..") then before_last is_slash path
    else path ++ (codes "/" ++ part)

-- where the parts between a path's slashes lead, one after the other: the same path without `.`, `..` and empty parts
abbrev pub plain : (path : List ℕ) → List ℕ
plain path = fold led_to [] (slice_split is_slash path)

-- what a URI names, once its percent escapes are read: `file:` and the plain path of a file of this machine, or else these bytes
abbrev pub named : (uri : List ℕ) → List ℕ
named uri = let bytes = percent_decode uri in option_map_or (λ path. codes "file:" ++ plain path) (path_of bytes) bytes

-- both URIs name the same
abbrev pub IsSameFile : (one other : List ℕ) → Type 0
IsSameFile one other = named one ≡ named other
