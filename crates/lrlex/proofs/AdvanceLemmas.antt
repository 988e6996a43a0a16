-- A run that took one more tile.
use Rattle.std.proofs.Common.{◌≡◌, ℕ, ◌+◌, ◌-◌, ◌<◌, ◌≤◌, max, List, [], ◌∷◌, ◌++◌, length, drop, sym, ap, ◌∙◌, subst, arith, length-append, IsCharBoundary}
use Rattle.std.proofs.lemmas.Str.{IsCharBoundary-from_rest}
use Rattle.lrlex_base.specs.LexemeParts.{LexemeParts}
use Rattle.lrlex_boundaries.specs.Entries.{plain, AreEntries}
use Rattle.lrlex_rules.specs.Definition.{Definition}
use Rattle.lrlex_rules.specs.Active.{active_count}
use Rattle.lrlex.specs.Lookahead.{IsDecided, capped}
use Rattle.lrlex.specs.Progress.{Front, HasAdvanced, HasSearched, IsUnderWay}
use Rattle.lrlex.specs.Reach.{Reached}
use Rattle.lrlex_definition.specs.RuleTable.{untabled_count}
use Rattle.lrlex_rules.specs.Tiling.{Tile, IsTaken, stack_past, tile_items, top}
use Rattle.lrlex_definition.specs.RuleTable.{definition_by}
use Rattle.lrlex.specs.Views.{items_by}
use Rattle.lrlex_definition.specs.declared.rule_table.RuleTable.{RuleTable}
use Rattle.lrlex.specs.declared.lexing.step.Progress.{Progress}
use Rattle.lrlex.proofs.FrontLemmas.{joined}
use Rattle.lrlex.proofs.LookaheadLemmas.{looked_more}
use Rattle.lrlex.proofs.ReachLemmas.{Reached-more, searches_now}

-- the searches of one step
pub searched : {S X : Type 0} (number : S → ℕ) (seen : X → LexemeParts S) (table : RuleTable S) (text : List ℕ) (f : Front) (p n : Progress X) →
    IsUnderWay (definition_by number table) number seen text f p → p.place < length text →
    n.asked ≤ p.asked + active_count (definition_by number table) (top (plain p.stack.items)) → n.asked ≡ p.asked + untabled_count table (top (plain p.stack.items)) →
    HasSearched number table text f p n
searched number seen table text f p n u inside few exact = record {
  few = searches_now (definition_by number table) text p.place p.stack.items (f.items ++ items_by number seen p.items.items) (f.boundaries ++ p.boundaries) p.asked u.reached n.asked inside few;
  exact = exact;
}

-- it stands behind the tile
pub advanced : {S X : Type 0} (number : S → ℕ) (seen : X → LexemeParts S) (d : Definition) (text : List ℕ) (f : Front) (p n : Progress X) →
    IsUnderWay d number seen text f p → p.place < length text → (t : Tile) (reach : ℕ) →
    IsTaken d (drop p.place text) (plain p.stack.items) t → IsCharBoundary (drop p.place text) t.len → IsDecided d (top (plain p.stack.items)) (drop p.place text) reach →
    n.asked ≤ p.asked + active_count d (top (plain p.stack.items)) →
    items_by number seen n.items.items ≡ items_by number seen p.items.items ++ tile_items d p.place t →
    n.place ≡ p.place + t.len → AreEntries n.stack.items → plain n.stack.items ≡ stack_past d (plain p.stack.items) t →
    n.lookahead ≡ max p.lookahead reach - t.len → n.ahead.items ≡ p.ahead.items ++ capped n.lookahead ∷ [] →
    n.boundaries ≡ p.boundaries ++ record { place = p.place + t.len; entries = n.stack.items } ∷ [] →
    HasAdvanced d number seen text f p n
advanced number seen d text f p n u inside t reach taken cuts decided few items place entries moved lookahead ahead kept =
    let r = u.reached in
    let found = f.items ++ items_by number seen p.items.items in
    let bounds = f.boundaries ++ p.boundaries in
    let more : f.items ++ items_by number seen n.items.items ≡ found ++ tile_items d p.place t = joined f.items (items_by number seen p.items.items) _ _ items in
    let all = joined f.boundaries p.boundaries n.boundaries _ kept in
    record {
      under_way = record {
        boundary = subst (IsCharBoundary text) (sym place) (IsCharBoundary-from_rest text p.place t.len u.boundary.0 cuts);
        some = omega (arith, ap length kept, length-append p.boundaries (record { place = p.place + t.len; entries = n.stack.items } ∷ []));
        reached =
            subst (λ i. Reached d text i n.stack.items (f.items ++ items_by number seen n.items.items) (f.boundaries ++ n.boundaries) n.asked) (sym place)
            (Reached-more d text p.place p.stack.items found bounds p.asked r n.stack.items (f.items ++ items_by number seen n.items.items) (f.boundaries ++ n.boundaries) n.asked t inside taken few entries moved more all);
        looked =
            looked_more d text r.before bounds (f.ahead ++ p.ahead.items) p.place p.stack.items p.lookahead r.kept u.looked reach t.len decided n.stack.items n.place n.lookahead (f.boundaries ++ n.boundaries) (f.ahead ++ n.ahead.items)
            place lookahead (all ∙ ap (λ i. bounds ++ record { place = i; entries = n.stack.items } ∷ []) (sym place))
            (joined f.ahead p.ahead.items n.ahead.items _ ahead);
      };
      grows = omega (arith, place, taken.wins.some);
      more = (_, kept);
    }
