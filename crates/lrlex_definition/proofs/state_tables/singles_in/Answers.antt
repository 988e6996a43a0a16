use Rattle.std.proofs.Common.{◌≡◌, ℕ, ◌<◌, List, [], ◌∷◌, ◌++◌, length, None, Some, IfSome, inl, inr, sym, ap, ◌∙◌, subst, arith}
use Rattle.std.proofs.lemmas.Bool.{cases_lt}
use Rattle.std.proofs.lemmas.List.{length_push, get_or_append_left, get_or_push}
use Rattle.std.proofs.lemmas.List.Sums.{sum_by_push}
use Rattle.std.proofs.lemmas.Option.{slice_get-get_or, slice_get_within, get_or_from_slice_get}
use Rattle.regex.specs.Patterns.{Re}
use Rattle.lrlex_table.specs.Table.{IsTableOf}
use Rattle.lrlex_table.specs.Tables.{AreCached}
use Rattle.lrlex_table.specs.Rows.{table_rows, cached_rows}
use Rattle.lrlex_table.specs.declared.cached_table.CachedTable.{CachedTable}
use Rattle.lrlex_definition.proofs.state_tables.singles_in.Goals as goal

-- room for one more table
cached_more : (pattern : ℕ → Re) (xs : List CachedTable) (new : CachedTable) → new.table ≡ None → AreCached pattern xs → AreCached pattern (xs ++ new ∷ [])
cached_more pattern xs new none old k s is = elim (cases_lt k (length xs)) [
  | inl low ↦ old k s (slice_get-get_or xs k new low ∙ ap Some (sym (get_or_append_left xs (new ∷ []) new k low)) ∙ sym (slice_get-get_or (xs ++ new ∷ []) k new (omega (arith, length_push xs new))) ∙ is)
  | inr high ↦
      let within : k < length (xs ++ new ∷ []) = slice_get_within (xs ++ new ∷ []) k s is in
      let last : length xs ≡ k = omega (arith, length_push xs new) in
      let now : new ≡ s = sym (get_or_push xs new new k last) ∙ get_or_from_slice_get (xs ++ new ∷ []) k s new is in
      subst (λ (u : CachedTable). IfSome u.table (IsTableOf (pattern k ∷ []))) now (subst (λ o. IfSome o (IsTableOf (pattern k ∷ []))) (sym none) tt)
]

pub lists-preserved : goal.lists-preserved
lists-preserved c =
    let items = c.in_ok-push.ensures.items in
    let old = c.lists.singles.items in (
      λ pattern. subst (AreCached pattern) (sym items) (cached_more pattern old c.new.result c.new.ensures.table (c.lists.invariant.0 pattern)),
      omega (arith, ap cached_rows items, sum_by_push (λ (s : CachedTable). table_rows s.table) old c.new.result, ap table_rows c.new.ensures.table, c.lists.invariant.1),
    )
