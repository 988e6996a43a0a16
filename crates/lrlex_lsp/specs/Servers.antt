-- What outlives a server.
use Rattle.std.specs.Prelude.{◌≡◌, ℕ, Bool, true, false, List, [], ◌∷◌, Option, fold, map, string_bytes}
use Rattle.std.specs.Cmp.Lexicographic.{slice_cmp}
use Rattle.std.specs.Ordering.{match_ordering, nat_cmp}
use Rattle.std.specs.declared.string.String.{String}
use Rattle.lrlex_lsp.specs.declared.opened.Opened.{Opened}
use Rattle.lrlex_lsp.specs.declared.opened.Role.{Role}
use Rattle.lrlex_lsp.specs.declared.opened.Role.TheVariants.{Rules}
use Rattle.lrlex_lsp.specs.declared.server.Server.{Server}
use Rattle.lrlex_lsp.specs.declared.started.Kept.{Kept}
use Rattle.lrlex_lsp.specs.declared.started.State.{State}
use Rattle.lrlex_lsp.specs.declared.texts.Texts.{Texts}

-- a document as a client knows it
pub record Known : Type 0 where
  pub uri : List ℕ
  pub text : List ℕ
  pub version : Option ℕ

-- a document between two servers
abbrev pub kept_as : Kept → Known
kept_as kept = record { uri = string_bytes kept.uri; text = string_bytes kept.text; version = kept.version }

-- the document is shown as a rule file
abbrev pub is_rules : Role → Bool
is_rules Rules = true
is_rules _ = false

-- an open document
abbrev pub open_as : (uri : List ℕ) → Opened → Known
open_as uri opened = record { uri = uri; text = opened.document.text; version = opened.version }

-- all open documents
abbrev pub all_open : {A : Type 0} → List (String A × Opened) → List Known
all_open {A} entries = map (λ (entry : String A × Opened). open_as (string_bytes entry.0) entry.1) entries

-- whether each is shown as a rule file
abbrev pub all_roles : {A : Type 0} → List (String A × Opened) → List Bool
all_roles {A} entries = map (λ (entry : String A × Opened). is_rules entry.1.role) entries

-- the documents once this one is opened, in the order of their URIs: it takes the place of one of its URI
abbrev pub put : List Known → Known → List Known
put [] new = new ∷ []
put (known ∷ rest) new = match_ordering (slice_cmp nat_cmp new.uri known.uri) (new ∷ known ∷ rest) (record { uri = known.uri; text = new.text; version = new.version } ∷ rest) (known ∷ put rest new)

-- The client, what it was told and the rules that were saved stay.
pub record KeepsClient (old new : Texts) : Type 0 where
  pub client : new.client ≡ old.client
  pub told : new.counts.told ≡ old.counts.told
  pub saved : new.saved ≡ old.saved

-- The server goes on from this state.
pub record GoesOnFrom (state : State) (server : Server) : Type 0 where
  pub phase : server.phase ≡ state.phase
  pub client : server.texts.client ≡ state.client
  pub told : server.texts.counts.told ≡ state.counts.told
  pub saved : server.texts.saved ≡ state.saved
  pub texts : all_open server.texts.open.entries ≡ fold put [] (map kept_as state.kept.items)

-- The state is what outlives the server: all open documents among it.
pub record IsLeftBy (server : Server) (state : State) : Type 0 where
  pub phase : state.phase ≡ server.phase
  pub client : state.client ≡ server.texts.client
  pub counts : state.counts ≡ server.texts.counts
  pub saved : state.saved ≡ server.texts.saved
  pub texts : map kept_as state.kept.items ≡ all_open server.texts.open.entries
  pub roles : map (λ (kept : Kept). kept.is_rules) state.kept.items ≡ all_roles server.texts.open.entries
