-- What was cut anew, in its place: it is what the new text gives.
use Rattle.std.proofs.Common.{◌≡◌, ◌≢◌, ℕ, ◌+◌, ◌-◌, ◌^◌, ◌<◌, ◌≤◌, true, false, List, Result, All, None, Some, [], ◌++◌, length, map, drop, take, refl, sym, ap, ap₂, ◌∙◌, subst, inl, inr, arith, append-nil}
use Rattle.std.proofs.Math.Logic.{∥∥₁_elim}
use Rattle.std.proofs.Props.{props}
use Rattle.std.proofs.lemmas.Bool.{cases_lt, true≢false}
use Rattle.std.proofs.lemmas.List.{map-append, nil_from_length, length-append, length-take-le, get_or_append_left, get_or-append-add}
use Rattle.lrlex_base.specs.LexemeParts.{LexemeParts}
use Rattle.lrlex_base.specs.Spans.{as_span, Span as Cut}
use Rattle.lrlex_base.specs.declared.spans.Span.{Span}
use Rattle.lrlex_rules.specs.Definition.{Definition}
use Rattle.lrlex_rules.specs.Active.{is_state}
use Rattle.lrlex.specs.Searches.{asks_by}
use Rattle.lrlex_boundaries.specs.Boundaries.{Boundary, boundary_at, last_entries, no_boundary}
use Rattle.lrlex.specs.Lookahead.{LooksAhead, items_before}
use Rattle.lrlex_boundaries.specs.Moves.{IsMovableBoundary, moved_boundary}
use Rattle.lrlex.specs.Moves.{IsMovable, items_from}
use Rattle.lrlex.specs.Reach.{IsLexed, IsRun}
use Rattle.lrlex.specs.Relex.{AreCountsOf}
use Rattle.lrlex_rules.specs.Tiling.{Item, Item-set, rebased}
use Rattle.lrlex.specs.Progress.{HasRecut, HasMet, IsEditOf, HasReplacedTail, HasReplacedMiddle, front_of}
use Rattle.lrlex_definition.specs.RuleTable.{definition_by}
use Rattle.lrlex.specs.Views.{item_of, items_by}
use Rattle.lrlex.specs.Changes.{change}
use Rattle.lrlex.specs.Work.{HasLinearRecut, IsLinearIn}
use Rattle.lrlex_rules.specs.declared.errors.LRLexError.{LRLexError}
use Rattle.lrlex_definition.specs.declared.rule_table.RuleTable.{RuleTable}
use Rattle.lrlex.specs.declared.editing.relex.Recut.{Recut}
use Rattle.lrlex.proofs.LookaheadLemmas.{looks_known}
use Rattle.lrlex.proofs.RecutLemmas.{old_lexed, old_looks, old_sorted}
use Rattle.lrlex.proofs.FrontLemmas.{last_behind}
use Rattle.lrlex.proofs.MeetLemmas.{items_movable, bounds_movable, rest_same, whole}
use Rattle.lrlex.proofs.RaisedLemmas.{looks_taken_over}
use Rattle.lrlex.proofs.ReachLemmas.{last_now, place_now, run_of}

module _ {S X : Type 0} (number : S → ℕ) (seen : X → LexemeParts S) (def : RuleTable S) (found : List (Result X LRLexError)) (olds : List Boundary) (numbers : List ℕ)
    (removed : Span) (put new : List ℕ) (e : IsEditOf number seen def found olds numbers removed put new) where
  -- ---- without a state 0 nothing changes

  module _ (none : is_state (definition_by number def) 0 ≡ false) where
    no_boundary_then : length olds ≡ 0
    no_boundary_then = ∥∥₁_elim e.run (Prim.hlevel props) (λ r. ap length (r.stateless none).boundaries_are)

    pub stateless_run : IsRun (definition_by number def) new (items_by number seen found) olds
    stateless_run = record {
      lexed = λ z. absurd (true≢false (sym z ∙ none));
      stateless = λ z. record { items_are = ∥∥₁_elim e.run (Prim.hlevel (props, Item-set)) (λ r. (r.stateless none).items_are); boundaries_are = nil_from_length olds no_boundary_then };
    }

    pub stateless_looks : LooksAhead (definition_by number def) new olds numbers
    stateless_looks =
        let looks = looks_known (definition_by number def) e.text olds numbers e.looks in
        record { len = looks.len; first = looks.first; decided = λ k within far. absurd (omega (arith, within, no_boundary_then)) }

    pub stateless_counts : AreCountsOf (definition_by number def) (asks_by def new) olds numbers (as_span removed) put new olds 0 0
    stateless_counts = record {
      asked = omega arith;
      few = omega arith;
      met = λ k m. omega arith;
      lexed = λ k within safe. absurd (omega (arith, within, no_boundary_then));
      exact = λ z. absurd (true≢false (sym z ∙ none));
    }

  module _ (initial : is_state (definition_by number def) 0 ≡ true) (a : Recut X) (h : HasRecut number seen def found olds numbers removed put new a) where
    -- what was cut anew begins where the old run stood
    starts_at : (bounds' tail : List Boundary) → bounds' ≡ (take a.index olds ++ a.progress.boundaries) ++ tail → (boundary_at bounds' a.index).place ≡ (boundary_at olds a.index).place
    starts_at bounds' tail is =
        let front = take a.index olds in
        let count : length front ≡ a.index = length-take-le a.index olds (omega (arith, h.from.within)) in
        let at : boundary_at bounds' a.index ≡ boundary_at olds a.index =
        ap (λ ms. boundary_at ms a.index) is
        ∙ get_or_append_left (front ++ a.progress.boundaries) tail no_boundary a.index (omega (arith, length-append front a.progress.boundaries, count, h.some))
        ∙ ap (boundary_at (front ++ a.progress.boundaries)) (omega (arith, count))
        ∙ get_or-append-add front a.progress.boundaries 0 no_boundary ∙ h.start in
        ap (λ (b : Boundary). b.place) at

    -- ---- at a meeting

    module _ (j : ℕ) (m : HasMet (definition_by number def) number seen olds removed put new (front_of (items_by number seen found) olds numbers a.index) a.progress j) where
      abbrev found_now : List Item
      found_now = items_before (boundary_at olds a.index).place (items_by number seen found) ++ items_by number seen a.progress.items.items

      abbrev bounds_now : List Boundary
      bounds_now = take a.index olds ++ a.progress.boundaries

      pub met_within : (a.index ≤ j) × (j < length olds)
      met_within = (
        elim (cases_lt j a.index) [
          | inl before ↦ absurd (omega (arith, (old_sorted number seen def found olds numbers removed put new e initial).rising j a.index before h.from.within, h.from.safe.before, m.place, m.past, removed.in_order))
          | inr behind ↦ behind
        ],
        m.within,
      )

      pub met_last : last_entries a.progress.boundaries ≡ (boundary_at olds j).entries
      met_last =
          sym (last_behind (take a.index olds) a.progress.boundaries m.under_way.some)
          ∙ last_now (definition_by number def) new a.progress.place a.progress.stack.items found_now bounds_now a.progress.asked m.under_way.reached ∙ sym m.stack

      pub met_items : length new < 2 ^ 64 → All (IsMovable (boundary_at olds j).place a.progress.place) (items_from (boundary_at olds j).place (items_by number seen found))
      met_items small =
          items_movable (definition_by number def) e.text new removed.start removed.end put (items_by number seen found) olds (old_lexed number seen def found olds numbers removed put new e initial)
          a.progress.place a.progress.stack.items found_now bounds_now a.progress.asked m.under_way.reached j m.within removed.in_order e.fits.1.0 e.gives m.past m.place m.stack m.under_way.boundary.0 small

      pub met_bounds : length new < 2 ^ 64 → All (IsMovableBoundary (boundary_at olds j).place a.progress.place) (drop (j + 1) olds)
      met_bounds small =
          bounds_movable (definition_by number def) e.text new removed.start removed.end put (items_by number seen found) olds (old_lexed number seen def found olds numbers removed put new e initial)
          a.progress.place a.progress.stack.items found_now bounds_now a.progress.asked m.under_way.reached j m.within removed.in_order e.fits.1.0 e.gives m.past m.place m.stack m.under_way.boundary.0 small

      module _ (found' : List (Result X LRLexError)) (bounds' : List Boundary) (numbers' : List ℕ) (is : HasReplacedMiddle number seen found olds numbers a j found' bounds' numbers') where
        pub between_run : IsRun (definition_by number def) new (items_by number seen found') bounds'
        between_run =
            let D = definition_by number def in
            let tail = map (rebased (boundary_at olds j).place a.progress.place) (items_from (boundary_at olds j).place (items_by number seen found)) in
            let lexed : IsLexed D new (found_now ++ tail) (bounds_now ++ map (moved_boundary (boundary_at olds j).place a.progress.place) (drop (j + 1) olds)) =
            whole D e.text new removed.start removed.end put (items_by number seen found) olds (old_lexed number seen def found olds numbers removed put new e initial)
            a.progress.place a.progress.stack.items found_now bounds_now a.progress.asked m.under_way.reached j m.within removed.in_order e.fits.1.0 e.gives m.past m.place m.stack in
            run_of D new (items_by number seen found') bounds' initial
            (subst (λ xs. IsLexed D new xs bounds') (sym (is.items ∙ ap (λ xs. (xs ++ items_by number seen a.progress.items.items) ++ tail) h.before)) (subst (IsLexed D new (found_now ++ tail)) (sym is.boundaries) lexed))

        pub between_looks : LooksAhead (definition_by number def) new bounds' numbers'
        between_looks =
            let D = definition_by number def in
            let p = a.progress in
            let same = rest_same D e.text new removed.start removed.end put (items_by number seen found) olds (old_lexed number seen def found olds numbers removed put new e initial)
            p.place p.stack.items found_now bounds_now p.asked m.under_way.reached j m.within removed.in_order e.fits.1.0 e.gives m.past m.place m.stack in
            subst (λ ms. LooksAhead D new ms numbers') (sym is.boundaries)
            (looks_taken_over D e.text new olds numbers (old_looks number seen def found olds numbers removed put new e initial) (old_sorted number seen def found olds numbers removed put new e initial)
            m.under_way.reached.before bounds_now (take a.index numbers ++ p.ahead.items) p.place p.stack.items p.lookahead m.under_way.reached.kept m.under_way.looked j m.within same m.stack numbers' is.ahead)

        pub between_counts : a.met ≢ None → AreCountsOf (definition_by number def) (asks_by def new) olds numbers (as_span removed) put new bounds' a.progress.asked (length a.progress.boundaries - 1)
        between_counts met = h.counts (map (moved_boundary (boundary_at olds j).place a.progress.place) (drop (j + 1) olds)) bounds' (λ none. absurd (met none)) is.boundaries

        pub between_recut : a.met ≡ Some j → HasLinearRecut def new bounds' (change a.index (j - a.index) (length a.progress.boundaries - 1)) a.looked
        between_recut met =
            let tail = map (moved_boundary (boundary_at olds j).place a.progress.place) (drop (j + 1) olds) in
            let long : length bounds_now ≡ a.index + length a.progress.boundaries = omega (arith, length-append (take a.index olds) a.progress.boundaries, length-take-le a.index olds (omega (arith, h.from.within))) in
            let end : a.index + (length a.progress.boundaries - 1) ≡ length bounds_now - 1 = omega (arith, long, h.some) in
            let last : (boundary_at bounds' (a.index + (length a.progress.boundaries - 1))).place ≡ a.progress.place =
            ap₂ (λ ms i. (boundary_at ms i).place) is.boundaries end
            ∙ ap (λ (b : Boundary). b.place) (get_or_append_left bounds_now tail no_boundary (length bounds_now - 1) (omega (arith, long, h.some)))
            ∙ place_now (definition_by number def) new a.progress.place a.progress.stack.items found_now bounds_now a.progress.asked m.under_way.reached in
            let first : (boundary_at bounds' a.index).place ≡ (boundary_at olds a.index).place = starts_at bounds' tail is.boundaries in
            record {
              met = λ _. subst (λ n. IsLinearIn def new n a.looked) (ap₂ (λ x y. x - y) (sym last) (sym first)) (h.near j met);
              ended = subst (λ x. IsLinearIn def new (length new - x) a.looked) (sym first) h.linear;
            }

    -- ---- at an end

    module _ (none : a.met ≡ None) (found' : List (Result X LRLexError)) (bounds' : List Boundary) (numbers' : List ℕ) (is : HasReplacedTail found olds numbers a found' bounds' numbers') where
      pub behind_run : IsRun (definition_by number def) new (items_by number seen found') bounds'
      behind_run =
          let D = definition_by number def in
          let items_are : items_by number seen found' ≡ items_by number seen (take a.first found) ++ items_by number seen a.progress.items.items =
          ap (items_by number seen) is.items ∙ map-append (item_of number seen) (take a.first found) a.progress.items.items in
          run_of D new (items_by number seen found') bounds' initial (subst (λ xs. IsLexed D new xs bounds') (sym items_are) (subst (IsLexed D new _) (sym is.boundaries) (h.lexed none)))

      pub behind_looks : LooksAhead (definition_by number def) new bounds' numbers'
      behind_looks =
          let D = definition_by number def in
          subst (LooksAhead D new bounds') (sym is.ahead) (subst (λ ms. LooksAhead D new ms (take a.index numbers ++ a.progress.ahead.items)) (sym is.boundaries) (h.looked none))

      pub behind_counts : AreCountsOf (definition_by number def) (asks_by def new) olds numbers (as_span removed) put new bounds' a.progress.asked (length a.progress.boundaries - 1)
      behind_counts = h.counts [] bounds' (λ _. refl) (is.boundaries ∙ sym (append-nil (take a.index olds ++ a.progress.boundaries)))

      pub behind_recut : HasLinearRecut def new bounds' (change a.index ((length olds - 1) - a.index) (length a.progress.boundaries - 1)) a.looked
      behind_recut =
          let first = starts_at bounds' [] (is.boundaries ∙ sym (append-nil (take a.index olds ++ a.progress.boundaries))) in
          let long : length bounds' ≡ a.index + length a.progress.boundaries =
          omega (arith, ap length is.boundaries, length-append (take a.index olds) a.progress.boundaries, length-take-le a.index olds (omega (arith, h.from.within))) in
          record {
            met = λ lt. absurd (omega (arith, lt, long, h.some));
            ended = subst (λ x. IsLinearIn def new (length new - x) a.looked) (sym first) h.linear;
          }

-- the same counts, of what is known to be the same
pub counts_moved : {d : Definition} (asks : List ℕ → List Boundary → ℕ) {old old' : List Boundary} {ahead ahead' : List ℕ} {removed removed' : Cut} {put text text' : List ℕ} {new : List Boundary} {many recut : ℕ} →
    old' ≡ old → ahead' ≡ ahead → removed' ≡ removed → text' ≡ text → AreCountsOf d (asks text') old' ahead' removed' put text' new many recut → AreCountsOf d (asks text) old ahead removed put text new many recut
counts_moved asks is_old is_ahead is_removed is_text h = rw (sym is_old, sym is_ahead, sym is_removed, sym is_text) h
