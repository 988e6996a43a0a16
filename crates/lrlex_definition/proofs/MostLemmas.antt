-- The most tables that one of some lists has.
use Rattle.std.proofs.Common.{◌≡◌, ℕ, zero, suc, ◌+◌, ◌≤◌, max, true, List, [], ◌∷◌, ◌++◌, Some, is_some, vec_len, slice_get, refl, sym, ap, ◌∙◌, arith}
use Rattle.std.proofs.lemmas.Bool.{true≢false}
use Rattle.std.proofs.lemmas.Option.{same_Some}
use Rattle.lrlex_table.specs.declared.tables.Tables.{Tables}
use Rattle.lrlex_definition.specs.StateTables.{most_tables}

-- a list's tables are no more than the most
pub few_tables : (lists : List Tables) (k : ℕ) (t : Tables) → slice_get lists k ≡ Some t → vec_len t.parts ≤ most_tables lists
few_tables [] k t is = absurd (true≢false (ap is_some (sym is)))
few_tables (x ∷ xs) zero t is =
    let most : most_tables (x ∷ xs) ≡ max (vec_len x.parts) (most_tables xs) = refl in
    omega (arith, most, ap (λ y. vec_len y.parts) (same_Some _ _ is))
few_tables (x ∷ xs) (suc k) t is =
    let most : most_tables (x ∷ xs) ≡ max (vec_len x.parts) (most_tables xs) = refl in
    omega (arith, most, few_tables xs k t is)

-- the most of some lists and one more
pub most_more : (lists : List Tables) (t : Tables) → most_tables (lists ++ t ∷ []) ≡ max (most_tables lists) (vec_len t.parts)
most_more [] t = omega arith
most_more (x ∷ xs) t = ap (max (vec_len x.parts)) (most_more xs t) ∙ omega arith
