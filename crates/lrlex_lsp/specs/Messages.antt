-- What a message of JSON-RPC is, by its members.
use Rattle.std.specs.Prelude.{ℕ, List, Option, IsSome, IsNone, codes, option_and_then}
use Rattle.serde_json.specs.Data.{Data}
use Rattle.serde_json.specs.Find.{get, as_str}
use Rattle.lrlex_lsp.specs.declared.messages.Call.{Call}
use Rattle.lrlex_lsp.specs.declared.messages.Call.TheVariants.{Request, Notification, Answer, Malformed}

-- the method that a message names
abbrev pub method_of : Data → Option (List ℕ)
method_of d = option_and_then as_str (get (codes "method") d)

-- it has an id and a method, and is to be answered
abbrev pub IsRequest : Data → Type 0
IsRequest d = IsSome (get (codes "id") d) × IsSome (method_of d)

-- it has a method and no id, and isn't to be answered
abbrev pub IsNotification : Data → Type 0
IsNotification d = IsNone (get (codes "id") d) × IsSome (method_of d)

-- it has an id, and no member `method`: it answers what the server asked, and isn't to be answered
abbrev pub IsAnswer : Data → Type 0
IsAnswer d = IsSome (get (codes "id") d) × IsNone (get (codes "method") d)

-- this is what the message asks
abbrev pub IsCallOf : Call → Data → Type 0
IsCallOf (Request id method) d = IsRequest d
IsCallOf (Notification method) d = IsNotification d
IsCallOf Answer d = IsAnswer d
IsCallOf Malformed d = IsNone (method_of d) × (IsAnswer d → ⊥)
