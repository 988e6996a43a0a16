-- Tiles that are cut anew, from an old boundary on.
use Rattle.std.proofs.Common.{◌≡◌, ℕ, ◌+◌, ◌-◌, ◌<◌, ◌≤◌, true, List, Result, Option, [], ◌∷◌, ◌++◌, Some, None, length, map, drop, take, slice_range, refl, sym, ap, ◌∙◌, subst, inl, inr, arith, append-nil, length-append, IsCharBoundary}
use Rattle.std.specs.List.{sum_by}
use Rattle.std.specs.List.Sorted.{IsPartitionedBy}
use Rattle.std.proofs.lemmas.Bool.{cases_lt}
use Rattle.std.proofs.lemmas.Option.{same_Some, none-some}
use Rattle.std.proofs.lemmas.List.{length-drop, length-take-le, get_or-take, get_or_append_left, take_more, map-append}
use Rattle.std.proofs.lemmas.List.Sums.{sum_by-append}
use Rattle.lrlex_base.specs.Edits.{edited}
use Rattle.lrlex_base.specs.LexemeParts.{LexemeParts}
use Rattle.lrlex_base.specs.Spans.{Fits, as_span}
use Rattle.lrlex_base.specs.declared.spans.Span.{Span}
use Rattle.lrlex_table.specs.Reach.{IsText}
use Rattle.lrlex_rules.specs.Active.{is_state}
use Rattle.lrlex.specs.Searches.{IsLastSafe, asks_by}
use Rattle.lrlex_definition.specs.RuleTable.{untabled_count}
use Rattle.lrlex_boundaries.specs.Boundaries.{Boundary, place_and_stack, no_boundary, boundary_at}
use Rattle.lrlex_boundaries.specs.Entries.{plain}
use Rattle.lrlex.specs.Lookahead.{HasLooked, IsSafe, LooksAhead, items_before}
use Rattle.lrlex_boundaries.specs.Moves.{AreSorted, Meets}
use Rattle.lrlex.specs.Moves.{begins_before}
use Rattle.lrlex.specs.Reach.{IsLexed, Reached, searches}
use Rattle.lrlex.specs.Relex.{AreCountsOf}
use Rattle.lrlex_rules.specs.Tiling.{Done, Item, asked_at, top}
use Rattle.lrlex.specs.Progress.{HasAdvanced, HasRecut, HasEnded, HasMet, IsEditOf, IsUnderWay, StandsAt, Front, front_of}
use Rattle.lrlex_definition.specs.RuleTable.{definition_by}
use Rattle.lrlex.specs.Views.{items_by}
use Rattle.lrlex.specs.Work.{IsLinearIn}
use Rattle.lrlex_rules.specs.declared.errors.LRLexError.{LRLexError}
use Rattle.lrlex_definition.specs.declared.rule_table.RuleTable.{RuleTable}
use Rattle.lrlex.specs.declared.lexing.step.Progress.{Progress}
use Rattle.lrlex.proofs.LookaheadLemmas.{looks_known}
use Rattle.lrlex.proofs.SearchLemmas.{asks_nowhere, next_asked, cut_to_meeting, cut_to_stop, cut_to_end}
use Rattle.lrlex.proofs.FrontLemmas.{joined}
use Rattle.lrlex.proofs.GoingLemmas.{some_boundary, order_at, first_safe, going, going_looked}
use Rattle.lrlex.proofs.KnownLemmas.{known, sorted}
use Rattle.lrlex.proofs.MeetLemmas.{few_anew, few_met, meets_front, met, unmet_before}
use Rattle.lrlex.proofs.ReachLemmas.{asked_now, ended, few_searches, nothing_left}

-- ---- what is known of the old run

module _ {S X : Type 0} (number : S → ℕ) (seen : X → LexemeParts S) (def : RuleTable S) (found : List (Result X LRLexError)) (olds : List Boundary) (numbers : List ℕ)
    (removed : Span) (put new : List ℕ) (e : IsEditOf number seen def found olds numbers removed put new) where
  -- how long the new text is
  pub new_len : length new ≡ removed.start + (length put + (length e.text - removed.end))
  new_len = omega (
    arith,
    ap length e.gives,
    length-append (take removed.start e.text) (put ++ drop removed.end e.text),
    length-append put (drop removed.end e.text),
    length-take-le removed.start e.text (omega (arith, removed.in_order, e.fits.1.0)),
    length-drop removed.end e.text,
    e.fits.1.0,
  )

  module _ (initial : is_state (definition_by number def) 0 ≡ true) where
    pub old_lexed : IsLexed (definition_by number def) e.text (items_by number seen found) olds
    old_lexed = known (definition_by number def) e.text (items_by number seen found) olds initial e.run

    pub old_looks : LooksAhead (definition_by number def) e.text olds numbers
    old_looks = looks_known (definition_by number def) e.text olds numbers e.looks

    pub old_sorted : AreSorted olds
    old_sorted = sorted (definition_by number def) e.text (items_by number seen found) olds old_lexed

    pub some_old : 0 < length olds
    some_old = some_boundary (definition_by number def) e.text (items_by number seen found) olds old_lexed

    pub old_first_safe : IsText new → IsSafe olds numbers removed.start 0
    old_first_safe is = first_safe (definition_by number def) e.text new put removed.start removed.end (items_by number seen found) olds numbers initial is (omega (arith, removed.in_order, e.fits.1.0)) e.gives old_lexed old_looks

    pub old_order : (k : ℕ) → k < length olds → IsPartitionedBy (begins_before (boundary_at olds k).place) (items_by number seen found)
    old_order k within = order_at (definition_by number def) e.text (items_by number seen found) olds old_lexed k within

-- ---- what lexing again took

module _ {S : Type 0} (number : S → ℕ) (def : RuleTable S) (new : List ℕ) (olds : List Boundary) (numbers : List ℕ) (removed : Span) (put : List ℕ)
    (place : ℕ) (stack : List (ℕ × ℕ)) (found : List Item) (bounds : List Boundary) (asked : ℕ) (r : Reached (definition_by number def) new place stack found bounds asked)
    (from : ℕ) (resumed : IsLastSafe olds numbers removed.start from) (le : from < length bounds) (count : asked ≡ asks_by def new (slice_range bounds from (length bounds - 1)))
    (unmet : (k : ℕ) → k + 1 < length bounds → Meets olds bounds removed.start removed.end (length put) k → ⊥)
    (recut : ℕ) (tiles : from + recut ≡ length bounds - 1) where
  abbrev Counts : List Boundary → ℕ → Type 0
  Counts all many = AreCountsOf (definition_by number def) (asks_by def new) olds numbers (as_span removed) put new all many recut

  reused : (k : ℕ) → k < length olds → IsSafe olds numbers removed.start k → k < from + 1
  reused k within safe = elim (cases_lt from k) [
    | inl later ↦ absurd (resumed.last k later within safe)
    | inr here ↦ omega arith
  ]

  few_tiles : (tail all : List Boundary) → all ≡ bounds ++ tail → (k : ℕ) → k < length olds → IsSafe olds numbers removed.start k
      → (recut + k ≤ length all - 1) × ((j : ℕ) → Meets olds all removed.start removed.end (length put) j → recut + k ≤ j)
  few_tiles tail all e = few_anew olds bounds tail all numbers removed.start removed.end (length put) (from + 1) recut unmet e reused (omega arith) (omega (arith, tiles, le))

  asked_first : (tail all : List Boundary) → all ≡ bounds ++ tail → asked ≤ searches (definition_by number def) new all
  asked_first tail all e =
      let D = definition_by number def in
      omega (
        arith,
        asked_now D new place stack found bounds asked r,
        ap (searches D new) e,
        ap (sum_by (asked_at D (length new))) (map-append place_and_stack bounds tail),
        sum_by-append (asked_at D (length new)) (map place_and_stack bounds) (map place_and_stack tail),
      )

  -- where the old run was met
  pub counts_met : (tail all : List Boundary) → all ≡ bounds ++ tail → removed.start + length put ≤ place → (j : ℕ) → j < length olds
      → (boundary_at olds j).place + (removed.start + length put) ≡ place + removed.end → (boundary_at olds j).entries ≡ stack → Counts all asked
  counts_met tail all e past j within back same =
      let D = definition_by number def in
      record {
        asked = asked_first tail all e;
        few = few_met D new place stack found bounds tail all asked asked r e (omega arith);
        met = met D new olds removed.start removed.end (length put) place stack found bounds tail all asked asked r unmet e (omega arith);
        lexed = few_tiles tail all e;
        exact = λ z. cut_to_meeting def D new olds numbers removed.start removed.end (length put) place stack found bounds asked r from resumed le count unmet all asked recut tiles tail e refl past j within back same;
      }

  -- where lexing stopped before the text's end
  pub counts_stopped : (all : List Boundary) (many : ℕ) → all ≡ bounds → ((k : ℕ) → Meets olds bounds removed.start removed.end (length put) k → ⊥) → place < length new
      → many ≡ asked + untabled_count def (top (plain stack)) → many ≤ searches (definition_by number def) new bounds → Counts all many
  counts_stopped all many e none lt is few =
      let D = definition_by number def in
      record {
        asked = subst (λ ms. many ≤ searches D new ms) (sym e) few;
        few = few_searches D new bounds all many many few refl e;
        met = λ k m. absurd (none k (subst (λ ms. Meets olds ms removed.start removed.end (length put) k) e m));
        lexed = few_tiles [] all (e ∙ sym (append-nil bounds));
        exact = λ z. cut_to_stop def D new olds numbers removed.start removed.end (length put) place stack found bounds asked r from resumed le count unmet all many recut tiles e none lt is;
      }

  -- where it came to the text's end
  pub counts_ended : (all : List Boundary) → all ≡ bounds → length new ≤ place → Counts all asked
  counts_ended all e end =
      let D = definition_by number def in
      let whole : all ≡ bounds ++ [] = e ∙ sym (append-nil bounds) in
      record {
        asked = asked_first [] all whole;
        few = few_met D new place stack found bounds [] all asked asked r whole (omega arith);
        met = met D new olds removed.start removed.end (length put) place stack found bounds [] all asked asked r unmet whole (omega arith);
        lexed = few_tiles [] all whole;
        exact = λ z. cut_to_end def D new olds numbers removed.start removed.end (length put) place stack found bounds asked r from resumed le count unmet all asked recut tiles e end refl;
      }

-- ---- tiles, one by one

module _ {S X : Type 0} (number : S → ℕ) (seen : X → LexemeParts S) (def : RuleTable S) (found : List (Result X LRLexError)) (olds : List Boundary) (numbers : List ℕ)
    (removed : Span) (put new : List ℕ) (k : ℕ) where
  -- what stands in front of them
  abbrev pub front : Front
  front = front_of (items_by number seen found) olds numbers k

  abbrev pub whole : Progress X → List Boundary
  whole p = take k olds ++ p.boundaries

  -- they are cut from boundary k, and none before the place meets the old run
  pub record AreCut (p : Progress X) : Type 0 where
    pub from : IsLastSafe olds numbers removed.start k
    pub start : boundary_at p.boundaries 0 ≡ boundary_at olds k
    pub under_way : IsUnderWay (definition_by number def) number seen new front p
    pub exact : p.asked ≡ asks_by def new (slice_range (whole p) k (length (whole p) - 1))
    pub unmet : (j : ℕ) → j + 1 < length (whole p) → Meets olds (whole p) removed.start removed.end (length put) j → ⊥

  pub whole_len : (p : Progress X) → AreCut p → length (whole p) ≡ k + length p.boundaries
  whole_len p c = omega (arith, length-append (take k olds) p.boundaries, length-take-le k olds (omega (arith, c.from.within)))

  -- none yet
  pub none_cut : (text : List ℕ) (p : Progress X) → is_state (definition_by number def) 0 ≡ true → IsText new → Fits text removed → new ≡ edited text (as_span removed) put
      → IsLexed (definition_by number def) text (items_by number seen found) olds → LooksAhead (definition_by number def) text olds numbers → IsLastSafe olds numbers removed.start k
      → StandsAt olds numbers k p → AreCut p
  none_cut text p initial is fits gives h looks from e =
      let D = definition_by number def in
      let olds_found = items_by number seen found in
      let le : removed.start ≤ length text = omega (arith, removed.in_order, fits.1.0) in
      let gone = going D text new put removed.start removed.end olds_found olds numbers initial is le gives h looks k from.within from.safe in
      let looked = going_looked D text new put removed.start removed.end olds_found olds numbers initial is le gives h looks k from.within from.safe p.lookahead e.lookahead in
      let at = boundary_at olds k in
      let before = items_before at.place olds_found in
      let items_are : before ++ items_by number seen p.items.items ≡ before = ap (λ xs. before ++ items_by number seen xs) e.items ∙ append-nil before in
      let bounds_are : whole p ≡ take (k + 1) olds = ap (λ ms. take k olds ++ ms) e.boundaries ∙ sym (take_more olds k no_boundary from.within) in
      let numbers_are : take k numbers ++ p.ahead.items ≡ take (k + 1) numbers = ap (λ ns. take k numbers ++ ns) e.ahead ∙ sym (take_more numbers k 0 (omega (arith, looks.len, from.within))) in
      let count : length (whole p) ≡ k + 1 = ap length bounds_are ∙ length-take-le (k + 1) olds (omega (arith, from.within)) in
      record {
        from = from;
        start = ap (λ ms. boundary_at ms 0) e.boundaries;
        under_way = record {
          boundary = subst (IsCharBoundary new) (sym e.place) gone.boundary;
          some = omega (arith, ap length e.boundaries);
          reached =
              subst (λ i. Reached D new i p.stack.items (before ++ items_by number seen p.items.items) (whole p) p.asked) (sym e.place)
              (subst (λ s. Reached D new at.place s (before ++ items_by number seen p.items.items) (whole p) p.asked) (sym e.stack)
              (subst (λ xs. Reached D new at.place at.entries xs (whole p) p.asked) (sym items_are)
              (subst (λ ms. Reached D new at.place at.entries before ms p.asked) (sym bounds_are)
              (subst (λ n. Reached D new at.place at.entries before (take (k + 1) olds) n) (sym e.asked) gone.reached))));
          looked =
              subst (λ i. HasLooked D new (whole p) (take k numbers ++ p.ahead.items) i p.lookahead) (sym e.place)
              (subst (λ ms. HasLooked D new ms (take k numbers ++ p.ahead.items) at.place p.lookahead) (sym bounds_are)
              (subst (λ ns. HasLooked D new (take (k + 1) olds) ns at.place p.lookahead) (sym numbers_are) looked));
        };
        exact = e.asked ∙ sym (asks_nowhere def new (whole p) k (length (whole p) - 1) (omega (arith, count)));
        unmet = unmet_before olds (whole p) removed.start removed.end (length put) (λ j lt.
            let place : (boundary_at (whole p) j).place ≡ (boundary_at olds j).place =
            ap (λ ms. (boundary_at ms j).place) bounds_are ∙ ap (λ (m : Boundary). m.place) (get_or-take (k + 1) olds j no_boundary (omega (arith, count, lt))) in
            omega (arith, place, from.safe.before, (sorted D text olds_found olds h).rising j k (omega (arith, count, lt)) from.within));
      }

  -- one more
  pub one_cut : (p n : Progress X) → AreCut p → ((j : ℕ) → Meets olds (whole p) removed.start removed.end (length put) j → ⊥) → HasAdvanced (definition_by number def) number seen new front p n
      → p.place < length new → n.asked ≡ p.asked + untabled_count def (top (plain p.stack.items)) → AreCut n
  one_cut p n c none more lt is =
      let D = definition_by number def in
      let m = more.more.0 in
      let e : whole n ≡ whole p ++ m ∷ [] = joined (take k olds) p.boundaries n.boundaries (m ∷ []) more.more.1 in
      record {
        from = c.from;
        start = ap (λ ms. boundary_at ms 0) more.more.1 ∙ get_or_append_left p.boundaries (m ∷ []) no_boundary 0 c.under_way.some ∙ c.start;
        under_way = more.under_way;
        exact = next_asked def new D p.place p.stack.items (front.items ++ items_by number seen p.items.items) (whole p) p.asked c.under_way.reached k (omega (arith, whole_len p c, c.under_way.some)) c.exact n.asked m (whole n) lt is e;
        unmet = λ j below meets. none j (meets_front olds (whole p) (m ∷ []) (whole n) removed.start removed.end (length put) j e (omega (arith, below, ap length e, length-append (whole p) (m ∷ []))) meets);
      }

  -- ---- where it ends

  module _ (first : ℕ) (within : first ≤ length found) (before : items_by number seen (take first found) ≡ items_before (boundary_at olds k).place (items_by number seen found))
      (cells : Option ℕ) (linear : IsLinearIn def new (length new - (boundary_at olds k).place) cells) where
    -- at a meeting
    pub cut_met : (p : Progress X) (j : ℕ) → AreCut p → HasMet (definition_by number def) number seen olds removed put new front p j → IsLinearIn def new (p.place - (boundary_at olds k).place) cells
        → HasRecut number seen def found olds numbers removed put new (record { index = k; first = first; progress = p; met = Some j; looked = cells })
    cut_met p j c m near = record {
      from = c.from;
      first = within;
      before = before;
      start = c.start;
      some = c.under_way.some;
      met = λ i e. subst (HasMet (definition_by number def) number seen olds removed put new front p) (same_Some j i e) m;
      lexed = λ e. absurd (none-some j (sym e));
      looked = λ e. absurd (none-some j (sym e));
      counts = λ tail all none is_bounds.
          counts_met number def new olds numbers removed put p.place p.stack.items (front.items ++ items_by number seen p.items.items) (whole p) p.asked c.under_way.reached
          k c.from (omega (arith, whole_len p c, c.under_way.some)) c.exact c.unmet (length p.boundaries - 1) (omega (arith, whole_len p c, c.under_way.some))
          tail all is_bounds m.past j m.within m.place m.stack;
      near = λ i e. near;
      linear = linear;
    }

    -- at an error
    pub cut_stopped : (p n : Progress X) → AreCut p → ((j : ℕ) → Meets olds (whole p) removed.start removed.end (length put) j → ⊥) → HasEnded (definition_by number def) number seen new front p n
        → p.place < length new → n.asked ≡ p.asked + untabled_count def (top (plain p.stack.items)) → n.asked ≤ searches (definition_by number def) new (whole p)
        → HasRecut number seen def found olds numbers removed put new (record { index = k; first = first; progress = n; met = None; looked = cells })
    cut_stopped p n c none e lt is few =
        let D = definition_by number def in
        let same : whole n ≡ whole p = ap (λ ms. take k olds ++ ms) e.same in
        record {
          from = c.from;
          first = within;
          before = before;
          start = ap (λ ms. boundary_at ms 0) e.same ∙ c.start;
          some = omega (arith, c.under_way.some, ap length e.same);
          met = λ i m. absurd (none-some i m);
          lexed = λ _. subst (λ xs. IsLexed D new (xs ++ items_by number seen n.items.items) (whole n)) (sym before) e.lexed;
          looked = λ _. subst (λ ms. LooksAhead D new ms (take k numbers ++ n.ahead.items)) (sym same) (subst (λ ns. LooksAhead D new (whole p) (take k numbers ++ ns)) (sym e.ahead) c.under_way.looked.looks);
          counts = λ tail all nil is_bounds.
              counts_stopped number def new olds numbers removed put p.place p.stack.items (front.items ++ items_by number seen p.items.items) (whole p) p.asked c.under_way.reached
              k c.from (omega (arith, whole_len p c, c.under_way.some)) c.exact c.unmet (length n.boundaries - 1) (omega (arith, whole_len p c, c.under_way.some, ap length e.same))
              all n.asked (is_bounds ∙ ap (λ ms. whole n ++ ms) (nil refl) ∙ append-nil (whole n) ∙ same) none lt is few;
          near = λ i m. absurd (none-some i m);
          linear = linear;
        }

    -- at the text's end
    pub cut_ended : (p : Progress X) → AreCut p → length new ≤ p.place → HasRecut number seen def found olds numbers removed put new (record { index = k; first = first; progress = p; met = None; looked = cells })
    cut_ended p c end =
        let D = definition_by number def in
        let all = front.items ++ items_by number seen p.items.items in
        record {
          from = c.from;
          first = within;
          before = before;
          start = c.start;
          some = c.under_way.some;
          met = λ i m. absurd (none-some i m);
          lexed = λ _. subst (λ xs. IsLexed D new (xs ++ items_by number seen p.items.items) (whole p)) (sym before)
              (ended D new p.place p.stack.items all (whole p) p.asked c.under_way.reached all Done (nothing_left new p.place end) (sym (append-nil all)));
          looked = λ _. c.under_way.looked.looks;
          counts = λ tail new_bounds nil is_bounds.
              counts_ended number def new olds numbers removed put p.place p.stack.items all (whole p) p.asked c.under_way.reached
              k c.from (omega (arith, whole_len p c, c.under_way.some)) c.exact c.unmet (length p.boundaries - 1) (omega (arith, whole_len p c, c.under_way.some))
              new_bounds (is_bounds ∙ ap (λ ms. whole p ++ ms) (nil refl) ∙ append-nil (whole p)) end;
          near = λ i m. absurd (none-some i m);
          linear = linear;
        }
