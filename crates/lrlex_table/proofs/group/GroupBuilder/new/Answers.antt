use Rattle.std.proofs.Common.{◌≡◌, ◌++◌, [], ◌∷◌, ℕ, List, length, map, sym, ap, ◌∙◌, subst, arith}
use Rattle.lrlex_table.specs.Group.{nexts_in, wins_in, start_in, all_starts, live_rows_of, IsPartialGroupOf}
use Rattle.lrlex_table.proofs.GroupGrowth.{partial_group_starts}
use Rattle.lrlex_table.proofs.group.GroupBuilder.new.Goals as goal

pub returns : goal.returns
returns c =
    let cache = c.args.cache.now in
    let places = c.args.places.now in
    let rows = c.push-2.new.self in
    let starts = c.in-Some.starts in
    let are = rw c.in-Some.is at c.in_ok-starts.ensures.starts in
    let pushed = c.in_ok-push-2.ensures.items ∙ ap (λ xs. xs ++ starts ∷ []) (c.in_ok-push.ensures.items ∙ ap (λ xs. xs ++ c.new.result ∷ []) c.new-rows.ensures.items) in
    let live_rows : live_rows_of rows ≡ [] ∷ all_starts (start_in cache places) (length places) ∷ [] =
    ap (map (λ v. v.items)) pushed ∙ ap (λ (l : List (ℕ × ℕ)). l ∷ starts.items ∷ []) c.new.ensures.items ∙ ap (λ (l : List (ℕ × ℕ)). [] ∷ l ∷ []) are in
    let first = partial_group_starts (length places) (nexts_in cache places) (wins_in cache places) (start_in cache places) in
    let next : c.new-3.result.items ≡ [] = c.new-3.ensures.items in
    let wins : c.new-4.result.items ≡ [] = c.new-4.ensures.items in
    record {
      tabled = rw c.in-Some.is at c.in_ok-starts.ensures.tabled;
      built = subst (λ rs. IsPartialGroupOf cache places rs c.new-3.result.items c.new-4.result.items) (sym live_rows)
          (subst (λ xs. IsPartialGroupOf cache places ([] ∷ all_starts (start_in cache places) (length places) ∷ []) xs c.new-4.result.items) (sym next)
          (subst (λ ws. IsPartialGroupOf cache places ([] ∷ all_starts (start_in cache places) (length places) ∷ []) [] ws) (sym wins) first));
      rows = omega arith;
      wins = omega (arith, c.new-4.ensures.len);
      cells = omega (arith, c.new-3.ensures.len);
    }
