-- What a document that is opened does to those that are open.
use Rattle.std.proofs.Common.{◌≡◌, List, [], ◌∷◌, refl, ap}
use Rattle.std.specs.declared.string.String.{String}
use Rattle.std.specs.Ordering.{match_ordering}
use Rattle.std.specs.declared.cmp.Ordering.TheVariants.{Less, Equal, Greater}
use Rattle.std.specs.BTreeMap.{insert_entry}
use Rattle.std.specs.String.{string_bytes, string_cmp}
use Rattle.lrlex_lsp.specs.declared.opened.Opened.{Opened}
use Rattle.lrlex_lsp.specs.Servers.{Known, all_open, open_as, put}

-- an entry that is inserted is a document that is put
pub open_inserted : {A : Type 0} (entries : List (String A × Opened)) (uri : String A) (opened : Opened)
    → all_open (insert_entry string_cmp entries uri opened) ≡ put (all_open entries) (open_as (string_bytes uri) opened)
open_inserted [] uri opened = refl
open_inserted {A} (e ∷ es) uri opened =
    let new : Known = open_as (string_bytes uri) opened in
    let known : Known = open_as (string_bytes e.0) e.1 in
    elim (string_cmp uri e.0) as (λ o. all_open (match_ordering o ((uri, opened) ∷ e ∷ es) ((e.0, opened) ∷ es) (e ∷ insert_entry string_cmp es uri opened))
    ≡ match_ordering o (new ∷ known ∷ all_open es) (open_as (string_bytes e.0) opened ∷ all_open es) (known ∷ put (all_open es) new)) [
      | Less ↦ refl
      | Equal ↦ refl
      | Greater ↦ ap (λ rest. known ∷ rest) (open_inserted es uri opened)
    ]
