-- A run that took many tiles of plain rules, one behind the other.
use Rattle.std.proofs.Common.{◌≡◌, ℕ, zero, suc, ◌+◌, ◌-◌, ◌<◌, ◌≤◌, Bor, get_or, is_some, max, nat_lt, not, List, [], ◌∷◌, ◌++◌, length, drop, Option, Some, option_map, slice_get, refl, sym, ap, ◌∙◌, subst, arith, append_assoc, append-nil, length-append, IsCharBoundary}
use Rattle.std.specs.Prelude.{option_copied, replicate, slice_range, unwrap_or}
use Rattle.std.specs.Option.{option_and_then}
use Rattle.std.proofs.lemmas.List.{get_or_read, replicate_more}
use Rattle.std.proofs.lemmas.Str.{IsCharBoundary-from_rest}
use Rattle.regex_hir.specs.Text.{is_some_and}
use Rattle.lrlex_base.specs.LexemeParts.{LexemeParts}
use Rattle.lrlex_boundaries.specs.Boundaries.{Boundary, last_entries}
use Rattle.lrlex_boundaries.specs.Entries.{plain}
use Rattle.lrlex_rules.specs.Definition.{Definition}
use Rattle.lrlex_table.specs.Ahead.{begin_at, match_at}
use Rattle.lrlex_table.specs.Chain.{end_of, no_mark, row_of}
use Rattle.lrlex_table.specs.declared.marks.Mark.{Mark}
use Rattle.lrlex_rules.specs.Active.{is_state, rule_at}
use Rattle.lrlex_rules.specs.Kinds.{IsPlain}
use Rattle.lrlex.specs.Lookahead.{HasLooked, IsDecided}
use Rattle.lrlex.specs.Plain.{AllArePlain, IsRunningIn, boundaries_of, id_at, lexemes_of}
use Rattle.lrlex.specs.Reach.{Reached}
use Rattle.lrlex_definition.specs.RowKinds.{own_kind}
use Rattle.lrlex.specs.Searcher.{AreFoundAt, IsFoundAt, IsSearcherOf, tile_of}
use Rattle.lrlex.specs.Searches.{asks_by}
use Rattle.lrlex_definition.specs.RuleTable.{untabled_count}
use Rattle.lrlex_rules.specs.Tiling.{Item, Tile, IsTaken, Wins, lexeme_of, stack_past, tile_items, top}
use Rattle.lrlex_definition.specs.RuleTable.{definition_by}
use Rattle.lrlex.specs.Views.{items_by}
use Rattle.lrlex_definition.specs.declared.row_kinds.RowKind.{RowKind}
use Rattle.lrlex_definition.specs.declared.rule_table.RuleTable.{RuleTable}
use Rattle.lrlex.specs.declared.lexing.step.Progress.{Progress}
use Rattle.lrlex.specs.declared.lexing.winner.Searcher.{Searcher}
use Rattle.lrlex.specs.declared.lexing.winner.Tile.{Tile as Won}
use Rattle.lrlex.proofs.FoundLemmas.{got}
use Rattle.lrlex_definition.proofs.KindLemmas.{no_target_of}
use Rattle.lrlex.proofs.PlainLemmas.{stays}
use Rattle.lrlex.proofs.LookaheadLemmas.{looked_more}
use Rattle.lrlex.proofs.ReachLemmas.{Reached-more, entries_now, last_now}
use Rattle.lrlex.proofs.SearchLemmas.{next_asked}

-- the kind that was read for a mark's row stands at it
pub kind_read : {S : Type 0} (kinds : List (RowKind S)) (marks : List Mark) (at : ℕ) (mark : Mark) (row : ℕ) (o : Option (Bor (RowKind S))) (kind : RowKind S) → at < length marks → mark ≡ get_or marks at mark → row ≡ mark.row →
    option_copied o ≡ Some kind → is_some o ≡ nat_lt row (length kinds) → ((d : RowKind S) → unwrap_or (option_copied o) d ≡ get_or kinds row d) → slice_get kinds (row_of marks at) ≡ Some kind
kind_read kinds marks at mark row o kind within is row_is found has reads =
    let same : row ≡ row_of marks at = row_is ∙ ap (λ (x : Mark). x.row) (get_or_read marks at mark within is no_mark) in
    ap (slice_get kinds) (sym same) ∙ got kinds row o kind found has reads

-- and where it ends is read off it
pub end_read : (marks : List Mark) (at : ℕ) (mark : Mark) (end : ℕ) → at < length marks → mark ≡ get_or marks at mark → end ≡ mark.end → end ≡ end_of marks at
end_read marks at mark end within is end_is = end_is ∙ ap (λ (x : Mark). x.end) (get_or_read marks at mark within is no_mark)

-- a run stands at a place within the text, with what it found up to there, and looked at most one byte past it
record Standing {S : Type 0} (number : S → ℕ) (table : RuleTable S) (text : List ℕ) (stack : List (ℕ × ℕ)) (asked place : ℕ) (found : List Item) (bounds : List Boundary) (numbers : List ℕ) (lookahead : ℕ) : Type 0 where
  pub boundary : IsCharBoundary text place
  pub some : 0 < length bounds
  pub reached : Reached (definition_by number table) text place stack found bounds asked
  pub looked : HasLooked (definition_by number table) text bounds numbers place lookahead
  pub exact : asked ≡ asks_by table text (slice_range bounds 0 (length bounds - 1))
  pub inside : place < length text
  pub near : lookahead ≤ 1

-- how far it looked past its place behind so many tiles
abbrev look : ℕ → ℕ → ℕ
look before zero = before
look before (suc n) = 1

module _ {S : Type 0} (number : S → ℕ) (table : RuleTable S) (text : List ℕ) (stack : List (ℕ × ℕ)) (asked q : ℕ) (on_top : q ≡ top (plain stack)) where
  abbrev d : Definition
  d = definition_by number table

  abbrev Stands : ℕ → List Item → List Boundary → List ℕ → ℕ → Type 0
  Stands = Standing number table text stack asked

  -- it takes one tile of a plain rule
  stand_behind : (place : ℕ) (found : List Item) (bounds : List Boundary) (numbers : List ℕ) (lookahead : ℕ) → Stands place found bounds numbers lookahead →
      (t : Won) → IsFoundAt number table q text place t → (id : Option S) → IsPlain number id (rule_at d t.rule) →
      Stands (place + t.len) (found ++ lexeme_of (option_map number id) place t.len) (bounds ++ record { place = place + t.len; entries = stack } ∷ []) (numbers ++ 1 ∷ []) 1
  stand_behind place found bounds numbers lookahead h t at id rule =
      let u : Tile = record { rule = t.rule; len = t.len } in
      let m : Boundary = record { place = place + t.len; entries = stack } in
      let target = no_target_of number id (rule_at d t.rule) rule in
      let taken : IsTaken d (drop place text) (plain stack) u = record {
        wins = subst (λ q. Wins d q (drop place text) t.rule t.len) on_top at.wins;
        has_id = rule.has_id;
        has_target = ap (λ o. is_some_and o (λ s. not (is_state d s.0))) target;
      } in
      let moved : plain stack ≡ stack_past d (plain stack) u = sym (stays (plain stack) (rule_at d t.rule).target target) in
      let items : found ++ lexeme_of (option_map number id) place t.len ≡ found ++ tile_items d place u = ap (λ o. found ++ lexeme_of o place t.len) (sym rule.gives) in
      let far : 1 ≡ max lookahead (t.len + 1) - t.len = omega (arith, h.near, taken.wins.some) in
      record {
        boundary = IsCharBoundary-from_rest text place t.len h.boundary.0 at.cuts;
        some = omega (arith, length-append bounds (m ∷ []));
        reached = Reached-more d text place stack found bounds asked h.reached stack (found ++ lexeme_of (option_map number id) place t.len) (bounds ++ m ∷ []) asked u h.inside taken (omega arith)
            (entries_now d text place stack found bounds asked h.reached) moved items refl;
        looked = looked_more d text h.reached.before bounds numbers place stack lookahead h.reached.kept h.looked (t.len + 1) t.len (subst (λ q. IsDecided d q (drop place text) (t.len + 1)) on_top at.decided)
            stack (place + t.len) 1 (bounds ++ m ∷ []) (numbers ++ 1 ∷ []) refl far refl refl;
        exact = next_asked table text d place stack found bounds asked h.reached 0 h.some h.exact asked m (bounds ++ m ∷ []) h.inside (omega (arith, ap (untabled_count table) on_top, at.tabled)) refl;
        inside = omega (arith, at.within);
        near = omega arith;
      }

  module _ (list from place : ℕ) (marks : List Mark) (count : ℕ) (few : count ≤ length marks) (plain_all : AllArePlain table.row_kinds.items list marks count) (all : AreFoundAt number table q list text from place marks)
      (found : List Item) (bounds : List Boundary) (numbers : List ℕ) (lookahead : ℕ) (h : Stands place found bounds numbers lookahead) where
    abbrev kinds : List (RowKind S)
    kinds = table.row_kinds.items

    -- it takes so many
    stand_many : (n : ℕ) → n ≤ count → Stands (begin_at from place marks n) (found ++ lexemes_of number kinds from place marks n) (bounds ++ boundaries_of from marks stack n) (numbers ++ replicate n 1) (look lookahead n)
    stand_many zero le =
        subst (λ xs. Stands place xs (bounds ++ []) (numbers ++ []) lookahead) (sym (append-nil found))
        (subst (λ ys. Stands place found ys (numbers ++ []) lookahead) (sym (append-nil bounds))
        (subst (λ zs. Stands place found bounds zs lookahead) (sym (append-nil numbers)) h))
    stand_many (suc n) le =
        let row = plain_all n (omega (arith, le)) in
        let w = row.0 in
        let at = all n w (omega (arith, le, few)) row.1 row.2 in
        let p = begin_at from place marks n in
        let end = from + end_of marks n in
        let len = end - p in
        let xs = lexemes_of number kinds from place marks n in
        let ys = boundaries_of from marks stack n in
        let zs : List ℕ = replicate n 1 in
        let made = stand_behind p (found ++ xs) (bounds ++ ys) (numbers ++ zs) (look lookahead n) (stand_many n (omega (arith, le))) (tile_of p (record { kind = w; next = match_at from marks n })) at.1 (own_kind w).id (at.2 row.3) in
        let ends : p + len ≡ end = omega (arith, at.0) in
        let id : option_map number (own_kind w).id ≡ id_at number kinds (row_of marks n) = sym (ap (option_and_then (λ (v : RowKind S). option_map number (own_kind v).id)) row.1) in
        let items : (found ++ xs) ++ lexeme_of (option_map number (own_kind w).id) p len ≡ found ++ (xs ++ lexeme_of (id_at number kinds (row_of marks n)) p len) =
        append_assoc found xs _ ∙ ap (λ o. found ++ (xs ++ lexeme_of o p len)) id in
        let places : (bounds ++ ys) ++ record { place = p + len; entries = stack } ∷ [] ≡ bounds ++ (ys ++ record { place = end; entries = stack } ∷ []) =
        append_assoc bounds ys _ ∙ ap (λ e. bounds ++ (ys ++ record { place = e; entries = stack } ∷ [])) ends in
        let one : n + 1 ≡ suc n = omega arith in
        let ones : (numbers ++ zs) ++ 1 ∷ [] ≡ numbers ++ replicate (suc n) 1 = append_assoc numbers zs (1 ∷ []) ∙ ap (λ os. numbers ++ os) (replicate_more n 1 ∙ ap (λ k. replicate k 1) one) in
        subst (λ e. Stands e (found ++ (xs ++ lexeme_of (id_at number kinds (row_of marks n)) p len)) (bounds ++ (ys ++ record { place = end; entries = stack } ∷ [])) (numbers ++ replicate (suc n) 1) 1) ends
        (subst (λ is. Stands (p + len) is (bounds ++ (ys ++ record { place = end; entries = stack } ∷ [])) (numbers ++ replicate (suc n) 1) 1) items
        (subst (λ bs. Stands (p + len) ((found ++ xs) ++ lexeme_of (option_map number (own_kind w).id) p len) bs (numbers ++ replicate (suc n) 1) 1) places
        (subst (λ os. Stands (p + len) ((found ++ xs) ++ lexeme_of (option_map number (own_kind w).id) p len) ((bounds ++ ys) ++ record { place = p + len; entries = stack } ∷ []) os 1) ones made)))

-- each tile takes a byte at least
pub many_bytes : {S : Type 0} (number : S → ℕ) (table : RuleTable S) (text : List ℕ) (q list from place : ℕ) (marks : List Mark) (count : ℕ) → count ≤ length marks → AllArePlain table.row_kinds.items list marks count → AreFoundAt number table q list text from place marks →
    (n : ℕ) → n ≤ count → place + n ≤ begin_at from place marks n
many_bytes number table text q list from place marks count few plain_all all zero le = omega arith
many_bytes number table text q list from place marks count few plain_all all (suc n) le =
    let row = plain_all n (omega (arith, le)) in
    let at = all n row.0 (omega (arith, le, few)) row.1 row.2 in
    let before = many_bytes number table text q list from place marks count few plain_all all n (omega (arith, le)) in
    omega (arith, at.0, before)

-- and no tile goes beyond the text
pub many_within : {S : Type 0} (number : S → ℕ) (table : RuleTable S) (text : List ℕ) (q list from place : ℕ) (marks : List Mark) (count : ℕ) → count ≤ length marks → AllArePlain table.row_kinds.items list marks count → AreFoundAt number table q list text from place marks →
    (k : ℕ) → k < count → from + end_of marks k < length text
many_within number table text q list from place marks count few plain_all all k lt =
    let row = plain_all k lt in
    let at = all k row.0 (omega (arith, lt, few)) row.1 row.2 in
    omega (arith, at.0, at.1.within)

looked_at : (before now count : ℕ) → (count ≡ 0 → now ≡ before) → (0 < count → now ≡ 1) → look before count ≡ now
looked_at before now zero none some = sym (none refl)
looked_at before now (suc n) none some = sym (some (omega arith))

-- the run that it is then
pub taken_many : {S X : Type 0} (number : S → ℕ) (seen : X → LexemeParts S) (table : RuleTable S) (text : List ℕ) (q list : ℕ) (s later : Searcher) (p n : Progress X) (from : ℕ) (marks : List Mark) (count : ℕ) →
    IsRunningIn number seen table text q s p → p.lookahead ≤ 1 → IsSearcherOf table text later → count ≤ length marks → AllArePlain table.row_kinds.items list marks count → AreFoundAt number table q list text from p.place marks →
    items_by number seen n.items.items ≡ items_by number seen p.items.items ++ lexemes_of number table.row_kinds.items from p.place marks count →
    n.place ≡ begin_at from p.place marks count → n.stack.items ≡ p.stack.items → n.asked ≡ p.asked → (count ≡ 0 → n.lookahead ≡ p.lookahead) → (0 < count → n.lookahead ≡ 1) →
    n.ahead.items ≡ p.ahead.items ++ replicate count 1 → n.boundaries ≡ p.boundaries ++ boundaries_of from marks (last_entries p.boundaries) count →
    IsRunningIn number seen table text q later n
taken_many number seen table text q list s later p n from marks count is near searcher few plain_all all items place stack asked none some ahead kept =
    let d = definition_by number table in
    let found = items_by number seen p.items.items in
    let u = is.running.under_way in
    let h : Standing number table text p.stack.items p.asked p.place found p.boundaries p.ahead.items p.lookahead =
    record { boundary = u.boundary; some = u.some; reached = u.reached; looked = u.looked; exact = is.running.exact; inside = is.inside; near = near } in
    let last : last_entries p.boundaries ≡ p.stack.items = last_now d text p.place p.stack.items found p.boundaries p.asked u.reached in
    let bounds : p.boundaries ++ boundaries_of from marks p.stack.items count ≡ n.boundaries = ap (λ e. p.boundaries ++ boundaries_of from marks e count) (sym last) ∙ sym kept in
    let far : look p.lookahead count ≡ n.lookahead = looked_at p.lookahead n.lookahead count none some in
    let w = stand_many number table text p.stack.items p.asked q is.state list from p.place marks count few plain_all all found p.boundaries p.ahead.items p.lookahead h count (omega arith) in
    let v : Standing number table text n.stack.items n.asked n.place (items_by number seen n.items.items) n.boundaries n.ahead.items n.lookahead =
    subst (λ e. Standing number table text e n.asked n.place (items_by number seen n.items.items) n.boundaries n.ahead.items n.lookahead) (sym stack)
    (subst (λ a. Standing number table text p.stack.items a n.place (items_by number seen n.items.items) n.boundaries n.ahead.items n.lookahead) (sym asked)
    (subst (λ i. Standing number table text p.stack.items p.asked i (items_by number seen n.items.items) n.boundaries n.ahead.items n.lookahead) (sym place)
    (subst (λ xs. Standing number table text p.stack.items p.asked (begin_at from p.place marks count) xs n.boundaries n.ahead.items n.lookahead) (sym items)
    (subst (λ ys. Standing number table text p.stack.items p.asked (begin_at from p.place marks count) (found ++ lexemes_of number table.row_kinds.items from p.place marks count) ys n.ahead.items n.lookahead) bounds
    (subst (λ zs. Standing number table text p.stack.items p.asked (begin_at from p.place marks count) (found ++ lexemes_of number table.row_kinds.items from p.place marks count) (p.boundaries ++ boundaries_of from marks p.stack.items count) zs n.lookahead) (sym ahead)
    (subst (λ l. Standing number table text p.stack.items p.asked (begin_at from p.place marks count) (found ++ lexemes_of number table.row_kinds.items from p.place marks count) (p.boundaries ++ boundaries_of from marks p.stack.items count) (p.ahead.items ++ replicate count 1) l) far w)))))) in
    record {
      running = record {
        under_way = record { boundary = v.boundary; some = v.some; reached = v.reached; looked = v.looked };
        exact = v.exact;
      };
      state = is.state ∙ ap (λ xs. top (plain xs)) (sym stack);
      inside = v.inside;
      searcher = searcher;
    }
