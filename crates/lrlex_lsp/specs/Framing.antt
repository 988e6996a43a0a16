-- A message as bytes.
use Rattle.std.specs.Prelude.{List, ℕ, ◌≡◌, ◌++◌, ◌<◌, ◌≤◌, Option, ⊤, true, eqb, length, codes, decimal}
use Rattle.std.specs.List.{ends_with, flat_map}
use Rattle.std.specs.Io.KnownBytes.{Appends, Consumes}
use Rattle.lrlex_lsp.specs.declared.framing.Frame.{Frame}
use Rattle.lrlex_lsp.specs.declared.framing.Frame.TheVariants.{Body, TooLong, Headless, End}

-- a head that says how many bytes the body has, an empty line, and the body
abbrev pub framed : List ℕ → List ℕ
framed body = codes "Content-Length: " ++ (decimal (length body) ++ (codes "\r\n\r\n" ++ body))

-- what was written is whole messages, one after the other, where it is known what the writer holds
abbrev pub WritesMessages : (old new : Option (List ℕ)) → Type 0
WritesMessages old new = (bodies : List (List ℕ)) × Appends old new (flat_map framed bodies)

-- the longest body that is taken, in bytes
abbrev pub most : ℕ
most = 268435456

-- an empty line ends it
abbrev pub IsHead : List ℕ → Type 0
IsHead head = ends_with eqb head (codes "\r\n\r\n") ≡ true

-- Where this was read, the reader gave a head and a body, which is too long if it has more bytes than are taken. Where it's headless
-- the reader gave some bytes.
abbrev pub IsFrameOf : (old new : Option (List ℕ)) → Frame → Type 0
IsFrameOf old new (Body body) = (head : List ℕ) × IsHead head × Consumes old new (head ++ body.items) × (length body.items ≤ most)
IsFrameOf old new TooLong = (head : List ℕ) × (body : List ℕ) × IsHead head × Consumes old new (head ++ body) × (most < length body)
IsFrameOf old new Headless = (bytes : List ℕ) × Consumes old new bytes
IsFrameOf old new End = ⊤
