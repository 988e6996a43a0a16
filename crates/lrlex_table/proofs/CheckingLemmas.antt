-- A chain that is one of a table for a byte of each class.
use Rattle.std.proofs.Common.{◌≡◌, ℕ, ◌+◌, ◌<◌, ◌≤◌, List, [], ◌∷◌, length, take, drop, get_or, Option, Some, None, Bor, IfSome, slice_get, sym, ap, ◌∙◌}
use Rattle.std.proofs.lemmas.Option.{slice_get_within}
use Rattle.std.proofs.lemmas.List.{get_or-take, get_or-drop, get_or-map}
use Rattle.lrlex_table.specs.Cell.{row_in, rows_in}
use Rattle.lrlex_table.specs.Table.{next_rows, next_of}
use Rattle.lrlex_table.specs.Chain.{base_of, IsIn, IsOnly, GoesTo, IsChainOf, NamesWinners, IsChainOfAll}
use Rattle.lrlex_table.specs.declared.table.Table.{Table}
use Rattle.lrlex_table.specs.declared.chain.Chain.{Chain}
use Rattle.lrlex_table.specs.declared.merged_tables.Part.{Part}
use Rattle.lrlex_table.specs.declared.tables.Tables.{Tables}
use Rattle.lrlex_table.proofs.AheadLemmas.{to_all}

same_some : {X : Type 0} (a b : X) (o : Option X) → o ≡ Some a → o ≡ Some b → a ≡ b
same_some a b o is was = cc

cell_in : (cells : List ℕ) (from n b : ℕ) → b < n → get_or (take n (drop from cells)) b 0 ≡ get_or cells (from + b) 0
cell_in cells from n b lt = get_or-take n (drop from cells) b 0 lt ∙ get_or-drop from cells b 0

-- cells that are equal lead to one row
pub alike_cells : (cells : List ℕ) (from n b f : ℕ) → b < n → f < n → from + b < length cells → from + f < length cells →
    get_or (take n (drop from cells)) b 0 ≡ get_or (take n (drop from cells)) f 0 → get_or (rows_in cells) (from + b) 0 ≡ get_or (rows_in cells) (from + f) 0
alike_cells cells from n b f here there one other same =
    get_or-map row_in cells (from + b) 0 0 one ∙ ap row_in (sym (cell_in cells from n b here) ∙ same ∙ cell_in cells from n f there) ∙ sym (get_or-map row_in cells (from + f) 0 0 other)

-- where the table's rows go on a byte as on another one, so does the chain
pub goes_alike : (t : Table) (l : ℕ) (c : Chain) (r b f to : ℕ) → ((q : ℕ) → next_of (next_rows t) q (Some b) ≡ next_of (next_rows t) q (Some f)) → ((128 ≤ f → 192 ≤ f) → 128 ≤ b → 192 ≤ b) → GoesTo t l c r f to →
    GoesTo t l c r b to
goes_alike t l c r b f to alike begins goes = (
  λ lt. let g = goes.0 lt in (g.0, λ of_l. g.1 of_l ∙ sym (alike (base_of c r))),
  λ ge.
      let g = goes.1 ge in (
        λ of_l. let e = g.0 of_l in (alike (base_of c r) ∙ e.0, e.1, e.2),
        λ of_l. g.1 of_l ∙ sym (alike t.start),
        begins g.2,
      ),
)

-- a list has one only table
pub one_only : (lists : List Tables) (l : ℕ) (p q : Part) → IsOnly lists l p → IsOnly lists l q → p ≡ q
one_only lists l p q one other =
    let same : one.0 ≡ other.0 = same_some one.0 other.0 (slice_get lists l) one.1 other.1 in
    let parts : p ∷ [] ≡ q ∷ [] = sym one.3 ∙ ap (λ (x : Tables). x.parts.items) same ∙ other.3 in
    ap (λ xs. get_or xs 0 p) parts

-- the only table of a list
pub only_of : (lists : List Tables) (l : ℕ) (ts : Tables) (r : Option (Bor Part)) → slice_get lists l ≡ Some ts → ts.asked.items ≡ [] → IfSome r (λ p. ts.parts.items ≡ p.now ∷ []) →
    IfSome r (λ p. IsOnly lists l p.now)
only_of lists l ts (Some p) there none is = (ts, there, none, is)
only_of lists l ts None there none is = tt

-- a chain of lists, by what was checked
module _ (lists : List Tables) (c : Chain) (only : (m : ℕ) → IsIn c m → (p : Part) × IsOnly lists m p) where
  pub in_lists : (l : ℕ) → IsIn c l → l < length lists
  in_lists l here = slice_get_within lists l (only l here).1.0 (only l here).1.1

  pub of_all_lists : (l : ℕ) (ts : Tables) → IsIn c l → slice_get lists l ≡ Some ts → ((p : Part) → IsOnly lists l p → IsChainOf p.table l c × NamesWinners p l c) → IsChainOfAll ts l c
  of_all_lists l ts here there is =
      let one = only l here in
      let p = one.0 in
      let o = one.1 in
      let same : ts ≡ o.0 = same_some ts o.0 (slice_get lists l) there o.1 in
      let parts : ts.parts.items ≡ p ∷ [] = ap (λ (x : Tables). x.parts.items) same ∙ o.3 in (
        ap (λ (x : Tables). x.asked.items) same ∙ o.2,
        ap length parts,
        to_all (λ q. IsChainOf q.table l c × NamesWinners q l c) ts.parts.items p parts (is p o),
      )
