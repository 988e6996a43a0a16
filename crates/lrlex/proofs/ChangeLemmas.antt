-- What an edit changed: the items, and the tiles.
use Rattle.std.proofs.Common.{◌≡◌, ℕ, suc, ◌+◌, ◌-◌, ◌^◌, ◌<◌, ◌≤◌, true, false, List, Result, All, [], ◌∷◌, ◌++◌, length, map, drop, take, refl, sym, ap, ap₂, ◌∙◌, subst, arith, append-nil, append_assoc, length-append, map-id}
use Rattle.std.proofs.Math.Logic.{∥∥₁_elim}
use Rattle.std.proofs.Props.{props}
use Rattle.std.proofs.lemmas.List.{map-append, take_at, drop_at, drop_all, take-map, length-map, length-take-le}
use Rattle.std.proofs.lemmas.Option.{slice_get-get_or}
use Rattle.lrlex_base.specs.LexemeParts.{LexemeParts}
use Rattle.lrlex_base.specs.Spans.{as_span, Span as Cut}
use Rattle.lrlex_base.specs.declared.spans.Span.{Span}
use Rattle.lrlex_rules.specs.Definition.{Definition}
use Rattle.lrlex_table.specs.Reach.{IsText}
use Rattle.lrlex_rules.specs.Active.{is_state}
use Rattle.lrlex.specs.Changes.{IsChange, HasChanged, change, none_of, moved_past}
use Rattle.lrlex.specs.Moves.{IsMovable, items_from}
use Rattle.lrlex.specs.Progress.{HasRecut, HasMet, IsEditOf, HasReplacedTail, HasReplacedMiddle, front_of}
use Rattle.lrlex.specs.Reach.{IsLexed, Reached}
use Rattle.lrlex_rules.specs.Tiling.{Item, Lexeme, Error, IsTiling, boundaries, rebased}
use Rattle.lrlex_definition.specs.RuleTable.{definition_by}
use Rattle.lrlex.specs.Views.{item_of, items_by}
use Rattle.lrlex_boundaries.specs.Boundaries.{Boundary, boundary_at, place_and_stack, no_boundary}
use Rattle.lrlex_boundaries.specs.Entries.{plain}
use Rattle.lrlex.specs.declared.editing.changes.Change.{Change}
use Rattle.lrlex_rules.specs.declared.errors.LRLexError.{LRLexError}
use Rattle.lrlex_definition.specs.declared.rule_table.RuleTable.{RuleTable}
use Rattle.lrlex.specs.declared.editing.relex.Recut.{Recut}
use Rattle.lrlex.proofs.DecidedLemmas.{decided_safe}
use Rattle.lrlex.proofs.InPlaceLemmas.{met_items, met_within}
use Rattle.lrlex.proofs.MeetLemmas.{rest_same}
use Rattle.lrlex.proofs.PeakLemmas.{tiles_are, length-boundaries}
use Rattle.lrlex.proofs.ReachLemmas.{length_now}
use Rattle.lrlex.proofs.RecutLemmas.{old_looks}
use Rattle.lrlex.proofs.ResumeLemmas.{alike-edited, begin_alike}
use Rattle.lrlex.proofs.SpliceLemmas.{AtBoundary, at_bound}
use Rattle.lrlex.proofs.TailLemmas.{tail_tiling}

-- ---- a list of which a part gave way to another

pub between : {A : Type 0} (move : A → A) (old new mid tail : List A) (first last n : ℕ) → first ≤ last → last ≤ length old → length mid ≡ first + n → tail ≡ drop last old → new ≡ mid ++ map move tail →
    take first new ≡ take first old → IsChange move (change first (last - first) n) old new
between move old new mid tail first last n within there len is_tail is front =
    let to_last : first + (last - first) ≡ last = omega arith in
    record {
      before = front;
      after = ap (drop (first + n)) is ∙ drop_at mid (map move tail) (first + n) len ∙ ap (map move) (is_tail ∙ ap (λ i. drop i old) (sym to_last));
      in_old = omega (arith, to_last, there);
      in_new = omega (arith, ap length is, length-append mid (map move tail), len);
    }

-- nothing is after it
pub at_end : {A : Type 0} (move : A → A) (old new : List A) (first n : ℕ) → first ≤ length old → length new ≡ first + n → take first new ≡ take first old → IsChange move (change first (length old - first) n) old new
at_end move old new first n within len front =
    between move old new new [] first (length old) n within (omega arith) len (sym (drop_all (length old) old (omega arith))) (sym (append-nil new)) front

-- nothing went, and nothing came
pub all_stay : {A : Type 0} (move : A → A) (xs : List A) (n : ℕ) → n ≡ length xs → IsChange move (change n 0 0) xs xs
all_stay move xs n is =
    let none : drop (n + 0) xs ≡ [] = drop_all (n + 0) xs (omega (arith, is)) in
    record { before = refl; after = none ∙ ap (map move) (sym none); in_old = omega (arith, is); in_new = omega (arith, is) }

-- the change by its two parts
pub told : (d : Definition) (old new : List ℕ) (removed : Cut) (put : List ℕ) (found found' : List Item) (bounds bounds' : List Boundary) {items items' pieces pieces' : Change} → items' ≡ items → pieces' ≡ pieces →
    HasChanged d old new removed put found found' bounds bounds' (record { items = items; pieces = pieces }) pieces.inserted → HasChanged d old new removed put found found' bounds bounds' (record { items = items'; pieces = pieces' }) pieces'.inserted
told d old new removed put found found' bounds bounds' {items} {items'} {pieces} {pieces'} of_items of_pieces h =
    subst (λ (x : Change). HasChanged d old new removed put found found' bounds bounds' (record { items = x; pieces = pieces' }) pieces'.inserted) (sym of_items)
    (subst (λ (x : Change). HasChanged d old new removed put found found' bounds bounds' (record { items = items; pieces = x }) x.inserted) (sym of_pieces) h)

-- ---- what is moved by a meeting is moved by the edit

moved_same : (p q high end : ℕ) → p + end ≡ q + high → end ≤ q → (i : Item) → IsMovable p q i → rebased p q i ≡ rebased high end i
moved_same p q high end back past (Lexeme id start len faulty) h =
    let e : (start + q) - p ≡ (start + end) - high = omega (arith, h.0) in ap (λ x. Lexeme id x len faulty) e
moved_same p q high end back past (Error start stop state) h =
    let a : (start + q) - p ≡ (start + end) - high = omega (arith, h.0) in
    let b : (stop + q) - p ≡ (stop + end) - high = omega (arith, h.2) in
    ap₂ (λ x y. Error x y state) a b

all_moved_same : (p q high end : ℕ) → p + end ≡ q + high → end ≤ q → (xs : List Item) → All (IsMovable p q) xs → map (rebased p q) xs ≡ map (rebased high end) xs
all_moved_same p q high end back past [] all = refl
all_moved_same p q high end back past (x ∷ xs) all =
    ap₂ (λ y ys. y ∷ ys) (moved_same p q high end back past x (all 0 x (omega arith))) (all_moved_same p q high end back past xs (λ k d lt. all (suc k) d (omega (arith, lt))))

-- ---- how many tiles led to a place

pub cut_len : (d : Definition) (text : List ℕ) (place : ℕ) (stack : List (ℕ × ℕ)) (found : List Item) (bounds : List Boundary) (asked : ℕ) → (r : Reached d text place stack found bounds asked) → length r.cut + 1 ≡ length bounds
cut_len d text place stack found bounds asked r =
    omega (
      arith,
      length_now d text place stack found bounds asked r,
      ap length (r.enters []),
      length-boundaries d 0 (0 ∷ []) (r.cut ++ []),
      length-append r.cut [],
      length-append (map place_and_stack r.before) (boundaries d place (plain stack) []),
      length-map r.before place_and_stack,
    )

module _ {S X : Type 0} (number : S → ℕ) (seen : X → LexemeParts S) (def : RuleTable S) (found : List (Result X LRLexError)) (olds : List Boundary) (numbers : List ℕ)
    (removed : Span) (put new : List ℕ) (e : IsEditOf number seen def found olds numbers removed put new) where
  -- ---- without a state 0 nothing changes

  pub stateless_changed : is_state (definition_by number def) 0 ≡ false → HasChanged (definition_by number def) e.text new (as_span removed) put (items_by number seen found) (items_by number seen found) olds olds (none_of (length found)) 0
  stateless_changed none =
      let no_boundary_then : length olds ≡ 0 = ∥∥₁_elim e.run (Prim.hlevel props) (λ r. ap length (r.stateless none).boundaries_are) in
      record {
        items = all_stay (moved_past (as_span removed) put) (items_by number seen found) (length found) (sym (length-map found (item_of number seen)));
        pieces = λ h h'. absurd (omega (arith, tiles_are (definition_by number def) e.text (items_by number seen found) olds h, no_boundary_then));
        came = refl;
      }

  module _ (initial : is_state (definition_by number def) 0 ≡ true) (is_text : IsText new) (a : Recut X) (h : HasRecut number seen def found olds numbers removed put new a) where
    low_fits : removed.start ≤ length e.text
    low_fits = omega (arith, removed.in_order, e.fits.1.0)

    -- the tiles before the safe boundary
    same_front : (found' : List Item) (bounds' : List Boundary) (o : IsLexed (definition_by number def) e.text (items_by number seen found) olds) (o' : IsLexed (definition_by number def) new found' bounds') →
        take a.index o'.cut ≡ take a.index o.cut
    same_front found' bounds' o o' =
        let D = definition_by number def in
        (begin_alike D e.text new removed.start (items_by number seen found) olds o is_text (alike-edited e.text new put removed.start removed.end low_fits e.gives) initial
        found' bounds' o' a.index h.from.within (decided_safe D e.text olds numbers removed.start a.index (old_looks number seen def found olds numbers removed put new e initial) h.from.within h.from.safe)).tiles

    front_items : items_by number seen (take a.first found) ≡ take a.first (items_by number seen found)
    front_items = sym (take-map (item_of number seen) a.first found)

    front_count : length (items_by number seen (take a.first found)) ≡ a.first
    front_count = length-map (take a.first found) (item_of number seen) ∙ length-take-le a.first found h.first

    -- ---- at a meeting

    module _ (j : ℕ) (m : HasMet (definition_by number def) number seen olds removed put new (front_of (items_by number seen found) olds numbers a.index) a.progress j)
        (found' : List (Result X LRLexError)) (bounds' : List Boundary) (numbers' : List ℕ) (is : HasReplacedMiddle number seen found olds numbers a j found' bounds' numbers') (small : length new < 2 ^ 64)
        (last : ℕ) (le : a.first ≤ last) (there : last ≤ length found) (tail : drop last (items_by number seen found) ≡ items_from (boundary_at olds j).place (items_by number seen found)) where
      between_items : IsChange (moved_past (as_span removed) put) (change a.first (last - a.first) (length a.progress.items.items)) (items_by number seen found) (items_by number seen found')
      between_items =
          let xs = items_by number seen found in
          let A = items_by number seen (take a.first found) in
          let B = items_by number seen a.progress.items.items in
          let rest = items_from (boundary_at olds j).place xs in
          let same = all_moved_same (boundary_at olds j).place a.progress.place removed.end (removed.start + length put) m.place m.past rest
          (met_items number seen def found olds numbers removed put new e initial a h j m small) in
          let now : items_by number seen found' ≡ (A ++ B) ++ map (moved_past (as_span removed) put) rest = is.items ∙ ap (λ ys. (A ++ B) ++ ys) same in
          between (moved_past (as_span removed) put) xs (items_by number seen found') (A ++ B) rest a.first last (length a.progress.items.items) le
          (omega (arith, there, length-map found (item_of number seen)))
          (omega (arith, length-append A B, front_count, length-map a.progress.items.items (item_of number seen))) (sym tail) now
          (ap (take a.first) (now ∙ append_assoc A B (map (moved_past (as_span removed) put) rest)) ∙ take_at A (B ++ map (moved_past (as_span removed) put) rest) a.first front_count ∙ front_items)

      between_tiles : (o : IsLexed (definition_by number def) e.text (items_by number seen found) olds) (o' : IsLexed (definition_by number def) new (items_by number seen found') bounds') →
          IsChange (λ t. t) (change a.index (j - a.index) (length a.progress.boundaries - 1)) o.cut o'.cut
      between_tiles o o' =
          let D = definition_by number def in
          let xs = items_by number seen found in
          let p = a.progress in
          let r = m.under_way.reached in
          let at : AtBoundary D e.text o.cut o.end xs olds j (boundary_at olds j) = record { tiling = o.tiling; items_are = o.items_are; boundaries_are = o.boundaries_are; at = slice_get-get_or olds j no_boundary m.within } in
          let same = rest_same D e.text new removed.start removed.end put xs olds o p.place p.stack.items _ _ p.asked r j m.within removed.in_order e.fits.1.0 e.gives m.past m.place m.stack in
          let rest : IsTiling D (drop p.place new) (plain p.stack.items) (drop j o.cut) o.end =
          subst (λ s. IsTiling D (drop p.place new) (plain s) (drop j o.cut) o.end) m.stack
          (subst (λ t. IsTiling D t (plain (boundary_at olds j).entries) (drop j o.cut) o.end) same
          (tail_tiling D e.text 0 (0 ∷ []) o.cut o.end j (boundary_at olds j).place (plain (boundary_at olds j).entries) o.tiling (at_bound D e.text o.cut o.end xs olds j (boundary_at olds j) at))) in
          let whole : o'.cut ≡ r.cut ++ drop j o.cut = sym (o'.only (r.cut ++ drop j o.cut) o.end (r.goes_on (drop j o.cut) o.end rest)).0 in
          let n = cut_len D new p.place p.stack.items _ _ p.asked r in
          between (λ t. t) o.cut o'.cut r.cut (drop j o.cut) a.index j (length p.boundaries - 1) (met_within number seen def found olds numbers removed put new e initial a h j m).0
          (omega (arith, m.within, tiles_are D e.text xs olds o))
          (omega (arith, n, length-append (take a.index olds) p.boundaries, length-take-le a.index olds (omega (arith, h.from.within)), m.under_way.some)) refl
          (whole ∙ ap (λ ts. r.cut ++ ts) (sym (map-id (drop j o.cut)))) (same_front (items_by number seen found') bounds' o o')

      pub between_changed : HasChanged (definition_by number def) e.text new (as_span removed) put (items_by number seen found) (items_by number seen found') olds bounds'
          (record { items = change a.first (last - a.first) (length a.progress.items.items); pieces = change a.index (j - a.index) (length a.progress.boundaries - 1) }) (length a.progress.boundaries - 1)
      between_changed = record { items = between_items; pieces = between_tiles; came = refl }

    -- ---- at an end

    module _ (found' : List (Result X LRLexError)) (bounds' : List Boundary) (numbers' : List ℕ) (is : HasReplacedTail found olds numbers a found' bounds' numbers') where
      behind_items : IsChange (moved_past (as_span removed) put) (change a.first (length found - a.first) (length a.progress.items.items)) (items_by number seen found) (items_by number seen found')
      behind_items =
          let xs = items_by number seen found in
          let A = items_by number seen (take a.first found) in
          let B = items_by number seen a.progress.items.items in
          let now : items_by number seen found' ≡ A ++ B = ap (items_by number seen) is.items ∙ map-append (item_of number seen) (take a.first found) a.progress.items.items in
          let count : length xs ≡ length found = length-map found (item_of number seen) in
          subst (λ n. IsChange (moved_past (as_span removed) put) (change a.first (n - a.first) (length a.progress.items.items)) xs (items_by number seen found')) count
          (at_end (moved_past (as_span removed) put) xs (items_by number seen found') a.first (length a.progress.items.items) (omega (arith, h.first, count))
          (omega (arith, ap length now, length-append A B, front_count, length-map a.progress.items.items (item_of number seen)))
          (ap (take a.first) now ∙ take_at A B a.first front_count ∙ front_items))

      behind_tiles : (o : IsLexed (definition_by number def) e.text (items_by number seen found) olds) (o' : IsLexed (definition_by number def) new (items_by number seen found') bounds') →
          IsChange (λ t. t) (change a.index ((length olds - 1) - a.index) (length a.progress.boundaries - 1)) o.cut o'.cut
      behind_tiles o o' =
          let D = definition_by number def in
          let count : length o.cut ≡ length olds - 1 = omega (arith, tiles_are D e.text (items_by number seen found) olds o) in
          subst (λ n. IsChange (λ t. t) (change a.index (n - a.index) (length a.progress.boundaries - 1)) o.cut o'.cut) count
          (at_end (λ t. t) o.cut o'.cut a.index (length a.progress.boundaries - 1) (omega (arith, count, h.from.within))
          (omega (arith, tiles_are D new (items_by number seen found') bounds' o', ap length is.boundaries, length-append (take a.index olds) a.progress.boundaries, length-take-le a.index olds (omega (arith, h.from.within)), h.some))
          (same_front (items_by number seen found') bounds' o o'))

      pub behind_changed : HasChanged (definition_by number def) e.text new (as_span removed) put (items_by number seen found) (items_by number seen found') olds bounds'
          (record { items = change a.first (length found - a.first) (length a.progress.items.items); pieces = change a.index ((length olds - 1) - a.index) (length a.progress.boundaries - 1) }) (length a.progress.boundaries - 1)
      behind_changed = record { items = behind_items; pieces = behind_tiles; came = refl }
