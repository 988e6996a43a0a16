use Rattle.std.proofs.Common.{get_or, sym, subst, arith}
use Rattle.std.proofs.lemmas.List.Sums.{sum_by-set}
use Rattle.lrlex_table.specs.declared.cached_table.CachedTable.{CachedTable}
use Rattle.lrlex_table.specs.Rows.{table_rows}
use Rattle.lrlex_table.specs.Tables.{AreCached}
use Rattle.lrlex_table.proofs.PartLemmas.{cached_at, cached_set}
use Rattle.lrlex_table.proofs.merged_tables.release_all.Goals as goal
use Rattle.lrlex_table.proofs.merged_tables.release_all.Goals.{then-place-cache, else-place-cache}

pub places-preserved : goal.places-preserved
places-preserved c = elim c.if-place-cache.branch [
  | then-place-cache w ↦
      let cache = c.places.cache in
      let place = get_or c.args.places.now c.places.place-index 0 in
      let lt = w.if-place-cache.true in (
        λ pattern cached.
            let are = c.places.invariant.0 pattern cached in
            subst (AreCached pattern) (sym w.cache-is)
            (cached_set pattern cache place w.release.new.self lt are (w.release.ensures.kept _ (cached_at pattern cache place _ lt are))),
        rw w.cache-is (rw w.budget-is (omega (arith, c.places.invariant.1, w.release.ensures.paid, sum_by-set (λ (s : CachedTable). table_rows s.table) cache place w.release.new.self w.index-cache-place.result lt))),
      )
  | else-place-cache w ↦
      (λ pattern cached. subst (AreCached pattern) (sym w.cache-is) (c.places.invariant.0 pattern cached), rw w.cache-is (rw w.budget-is c.places.invariant.1))
]
