-- Where a chain's marks cut, the longest matches of the tables begin and end.
use Rattle.std.proofs.Common.{◌≡◌, zero, suc, ℕ, ◌+◌, ◌-◌, ◌<◌, ◌≤◌, Bool, true, false, List, length, take, drop, get_or, Some, None, slice_get, slice_index_or, set, refl, sym, ap, ◌∙◌, subst, inl, inr, arith, add-one, true≢false, get_or-set_other, get_or-set_same, IsCharBoundary}
use Rattle.std.proofs.lemmas.Bool.{cases_lt}
use Rattle.std.proofs.lemmas.Option.{slice_get-get_or}
use Rattle.std.proofs.lemmas.List.{length-drop, get_or-drop}
use Rattle.lrlex_table.specs.Cell.{wins_at}
use Rattle.lrlex_table.specs.Table.{next_rows, next_of, EndsInRow}
use Rattle.lrlex_table.specs.Reach.{row_after}
use Rattle.lrlex_table.specs.Chain.{list_of, base_of, BeginsIn, GoesTo, IsCut, no_mark, end_of, row_of, begin_of, IsCutAt, AreMarksOf, AreJoined}
use Rattle.lrlex_table.specs.declared.table.Table.{Table}
use Rattle.lrlex_table.specs.declared.chain.Chain.{Chain}
use Rattle.lrlex_table.specs.declared.marks.Mark.{Mark}
use Rattle.lrlex_table.proofs.CellLemmas.{some_of, none_of}
use Rattle.lrlex_table.proofs.WalkLemmas.{Stands, stands_start, stands_marked, stands_unmarked, stands_dead}
use Rattle.lrlex_table.proofs.DeadEndLemmas.{row_next}

-- the table's walk has come to row r behind j bytes, and its longest match so far has n bytes and ends in row `last`
pub record HasCome (t : Table) (text : List ℕ) (j r : ℕ) : Type 0 where
  pub n : ℕ
  pub last : ℕ
  pub stands : Stands (next_rows t) t.wins.items t.start text j r n last
  pub here : 0 < j → wins_at t.wins.items r ≡ true → (n ≡ j) × (last ≡ r)

module _ (t : Table) (text : List ℕ) where
  come_on : (j : ℕ) → j < length text → HasCome t text j (row_after (next_rows t) t.start (take j text)) →
      (b : Bool) → wins_at t.wins.items (row_after (next_rows t) t.start (take (j + 1) text)) ≡ b →
      HasCome t text (j + 1) (row_after (next_rows t) t.start (take (j + 1) text))
  come_on j lt s true e =
      let r = row_after (next_rows t) t.start (take j text) in
      let to = row_after (next_rows t) t.start (take (j + 1) text) in
      let won = some_of (slice_index_or t.wins.items to None) e in
      record {
        n = j + 1;
        last = to;
        stands = stands_marked (next_rows t) t.wins.items t.start text j r s.n s.last to s.stands (omega arith) (row_next t text j r refl lt) won.0 won.1;
        here = λ some w. (refl, refl);
      }
  come_on j lt s false e =
      let r = row_after (next_rows t) t.start (take j text) in
      let to = row_after (next_rows t) t.start (take (j + 1) text) in
      record {
        n = s.n;
        last = s.last;
        stands = stands_unmarked (next_rows t) t.wins.items t.start text j r s.n s.last to s.stands (omega arith) (row_next t text j r refl lt) (none_of (slice_index_or t.wins.items to None) e);
        here = λ some w. absurd (true≢false (sym w ∙ e));
      }

  pub has_come : (j : ℕ) → j ≤ length text → HasCome t text j (row_after (next_rows t) t.start (take j text))
  has_come zero le = record {
    n = 0;
    last = 0;
    stands = stands_start (next_rows t) t.wins.items t.start text t.sound.4;
    here = λ some. absurd (omega arith);
  }
  has_come (suc j) le =
      subst (λ i. HasCome t text i (row_after (next_rows t) t.start (take i text))) (add-one j) (come_on j (omega arith) (has_come j (omega arith)) _ refl)

  -- where the walk is cut, the longest match ends
  pub cut_ends : (n r : ℕ) → IsCut t text n r → EndsInRow (next_rows t) t.wins.items t.start text (n + 1) n r
  cut_ends n r cut =
      let at = row_after (next_rows t) t.start (take n text) in
      let come = has_come n (omega (arith, cut.1)) in
      let here = come.here cut.0 (ap (wins_at t.wins.items) cut.2 ∙ cut.3) in
      let by_n : Stands (next_rows t) t.wins.items t.start text n at n come.last = subst (λ m. Stands (next_rows t) t.wins.items t.start text n at m come.last) here.0 come.stands in
      let by_last : Stands (next_rows t) t.wins.items t.start text n at n at = subst (Stands (next_rows t) t.wins.items t.start text n at n) here.1 by_n in
      stands_dead (next_rows t) t.wins.items t.start text n r n r 0 (subst (λ x. Stands (next_rows t) t.wins.items t.start text n x n x) cut.2 by_last) (omega (arith, cut.1)) (sym cut.4) refl

-- The chain's walk over the text from place `from + p` on, where a match begins, has come to the row at `from + at`. If the row is of list l,
-- so has the table's.
pub record IsOnWay (t : Table) (l : ℕ) (c : Chain) (text : List ℕ) (from p at row : ℕ) : Type 0 where
  pub behind : p ≤ at
  pub stands_for : list_of c row ≡ l → base_of c row ≡ row_after (next_rows t) t.start (take (at - p) (drop (from + p) text))

-- at the beginning
pub on_way_first : (t : Table) (l : ℕ) (c : Chain) (text : List ℕ) (from p row : ℕ) → BeginsIn t l c row → IsOnWay t l c text from p p row
on_way_first t l c text from p row is =
    let none : 0 ≡ p - p = omega arith in
    record { behind = omega arith; stands_for = λ of_l. is of_l ∙ ap (λ i. row_after (next_rows t) t.start (take i (drop (from + p) text))) none }

module _ (t : Table) (l : ℕ) (c : Chain) (text : List ℕ) (from : ℕ) where
  byte_at : (p at : ℕ) → p ≤ at → from + at < length text → slice_get (drop (from + p) text) (at - p) ≡ Some (get_or text (from + at) 0)
  byte_at p at le lt =
      let rest = length-drop (from + p) text in
      let same : from + p + (at - p) ≡ from + at = omega arith in
      slice_get-get_or (drop (from + p) text) (at - p) 0 (omega arith) ∙ ap Some (get_or-drop (from + p) text (at - p) 0 ∙ ap (λ i. get_or text i 0) same)

  -- one byte further, within a match
  pub goes_on : (p at row to : ℕ) → IsOnWay t l c text from p at row → from + at < length text →
      (list_of c to ≡ list_of c row) × (list_of c row ≡ l → base_of c to ≡ next_of (next_rows t) (base_of c row) (Some (get_or text (from + at) 0))) → IsOnWay t l c text from p (at + 1) to
  goes_on p at row to w lt goes =
      let hay = drop (from + p) text in
      let rest = length-drop (from + p) text in
      let le = w.behind in
      let more : at - p + 1 ≡ at + 1 - p = omega arith in
      record {
        behind = omega arith;
        stands_for = λ of_l.
            let also = sym goes.0 ∙ of_l in
            goes.1 also ∙ ap (next_of (next_rows t) (base_of c row)) (sym (byte_at p at le lt)) ∙ sym (row_next t hay (at - p) (base_of c row) (w.stands_for also) (omega arith))
            ∙ ap (λ i. row_after (next_rows t) t.start (take i hay)) more;
      }

  -- one byte further, where the next match begins
  pub begins : (at to : ℕ) → from + at < length text → (list_of c to ≡ l → base_of c to ≡ next_of (next_rows t) t.start (Some (get_or text (from + at) 0))) → IsOnWay t l c text from at (at + 1) to
  begins at to lt goes =
      let hay = drop (from + at) text in
      let rest = length-drop (from + at) text in
      let none : at - at ≡ 0 = omega arith in
      let one : 0 + 1 ≡ at + 1 - at = omega arith in
      record {
        behind = omega arith;
        stands_for = λ of_l. goes of_l ∙ ap (next_of (next_rows t) t.start) (sym (byte_at at at (omega arith) lt) ∙ ap (slice_get hay) none) ∙ sym (row_next t hay 0 t.start refl (omega arith))
            ∙ ap (λ i. row_after (next_rows t) t.start (take i hay)) one;
      }

  -- the match that ends there
  pub cuts : (p at row to : ℕ) → IsOnWay t l c text from p at row → from + at < length text → row < length c.bases.items → GoesTo t l c row (get_or text (from + at) 0) to → c.fresh ≤ to →
      IsCutAt t l c text from p at row
  cuts p at row to w lt inside goes fresh = (
    inside,
    (omega (arith, lt), λ here. (goes.1 fresh).2),
    λ of_l.
        let g = (goes.1 fresh).0 of_l in
        let rest = length-drop (from + p) text in
        let le = w.behind in
        let some : p < at = elim (cases_lt p at) [
          | inl before ↦ before
          | inr past ↦
              let none : at - p ≡ 0 = omega arith in
              let first : base_of c row ≡ t.start = w.stands_for of_l ∙ ap (λ i. row_after (next_rows t) t.start (take i (drop (from + p) text))) none in
              absurd (g.2 first)
        ] in
        let cut : IsCut t (drop (from + p) text) (at - p) (base_of c row) = (
          omega arith,
          omega (arith, rest),
          sym (w.stands_for of_l),
          g.1,
          ap (next_of (next_rows t) (base_of c row)) (byte_at p at le lt) ∙ g.0,
        ) in
        (some, cut),
  )

  -- where the marks are the same, matches begin alike
  begin_kept : (first : ℕ) (marks others : List Mark) (count : ℕ) → ((k : ℕ) → k < count → get_or others k no_mark ≡ get_or marks k no_mark) → (k : ℕ) → k ≤ count → begin_of first others k ≡ begin_of first marks k
  begin_kept first marks others count same zero le = refl
  begin_kept first marks others count same (suc k) le = ap (λ (x : Mark). x.end) (same k (omega (arith, le)))

  -- the same by equal numbers
  cut_as : (p e r q f s : ℕ) → q ≡ p → f ≡ e → s ≡ r → IsCutAt t l c text from p e r → IsCutAt t l c text from q f s
  cut_as p e r q f s begin end row is =
      subst (λ x. IsCutAt t l c text from x f s) (sym begin) (subst (λ x. IsCutAt t l c text from p x s) (sym end) (subst (λ x. IsCutAt t l c text from p e x) (sym row) is))

  -- the same, counted from so many bytes before
  moved : (apart p e r : ℕ) → IsCutAt t l c text (from + apart) p e r → IsCutAt t l c text from (apart + p) (apart + e) r
  moved apart p e r is =
      let end : from + apart + e ≡ from + (apart + e) = omega arith in
      let begin : from + apart + p ≡ from + (apart + p) = omega arith in
      let bytes : e - p ≡ apart + e - (apart + p) = omega arith in (
        is.0,
        subst (IsCharBoundary text) end is.1,
        λ of_l.
            let cut = is.2 of_l in
            let there : IsCut t (drop (from + (apart + p)) text) (e - p) (base_of c r) = subst (λ b. IsCut t (drop b text) (e - p) (base_of c r)) begin cut.1 in
            (omega (arith, cut.0), subst (λ n. IsCut t (drop (from + (apart + p)) text) n (base_of c r)) bytes there),
      )

  -- what is written behind a mark changes none
  kept_mark : (marks : List Mark) (count : ℕ) (m : Mark) (k : ℕ) → k < count → get_or (set marks count m) k no_mark ≡ get_or marks k no_mark
  kept_mark marks count m k lt = get_or-set_other marks count k m no_mark (λ e. absurd (omega (arith, e, lt)))

  kept_begin : (first : ℕ) (marks : List Mark) (count : ℕ) (m : Mark) (k : ℕ) → k ≤ count → begin_of first (set marks count m) k ≡ begin_of first marks k
  kept_begin first marks count m zero le = refl
  kept_begin first marks count m (suc k) le = ap (λ (x : Mark). x.end) (kept_mark marks count m k (omega (arith, le)))

  kept_marks : (first : ℕ) (marks : List Mark) (count : ℕ) (m : Mark) → AreMarksOf t l c text from first marks count → AreMarksOf t l c text from first (set marks count m) count
  kept_marks first marks count m are k lt =
      let same = kept_mark marks count m k lt in
      cut_as (begin_of first marks k) (end_of marks k) (row_of marks k) _ _ _ (kept_begin first marks count m k (omega (arith, lt))) (ap (λ (x : Mark). x.end) same) (ap (λ (x : Mark). x.row) same) (are k lt)

  -- and one more
  more_marks : (first : ℕ) (marks : List Mark) (count : ℕ) (m : Mark) → AreMarksOf t l c text from first marks count → count < length marks →
      IsCutAt t l c text from (begin_of first marks count) m.end m.row → AreMarksOf t l c text from first (set marks count m) (count + 1)
  more_marks first marks count m are room cut k lt = elim (cases_lt k count) [
    | inl before ↦ kept_marks first marks count m are k before
    | inr last ↦
        let is : k ≡ count = omega arith in
        let same = get_or-set_same marks count m no_mark room in
        subst (λ i. IsCutAt t l c text from (begin_of first (set marks count m) i) (end_of (set marks count m) i) (row_of (set marks count m) i)) (sym is)
        (cut_as (begin_of first marks count) m.end m.row _ _ _ (kept_begin first marks count m count (omega arith)) (ap (λ (x : Mark). x.end) same) (ap (λ (x : Mark). x.row) same) cut)
  ]

  -- where the next one begins
  next_begin : (first : ℕ) (marks : List Mark) (count : ℕ) (m : Mark) → count < length marks → begin_of first (set marks count m) (count + 1) ≡ m.end
  next_begin first marks count m room =
      subst (λ i. begin_of first (set marks count m) i ≡ m.end) (sym (add-one count)) (ap (λ (x : Mark). x.end) (get_or-set_same marks count m no_mark room))

  -- a lane's marks, and where its walk has come to at `at`
  abbrev pub IsLane : ℕ → List Mark → ℕ → ℕ → ℕ → Type 0
  IsLane first marks count at row = AreMarksOf t l c text from first marks count × IsOnWay t l c text from (begin_of first marks count) at row

  -- a lane goes one byte further
  pub passes : (first : ℕ) (marks : List Mark) (count at row to more : ℕ) → IsLane first marks count at row → from + at < length text → row < length c.bases.items → count < length marks →
      GoesTo t l c row (get_or text (from + at) 0) to → (c.fresh ≤ to → more ≡ 1) → (to < c.fresh → more ≡ 0) →
      IsLane first (set marks count (record { row = row; end = at })) (count + more) (at + 1) to
  passes first marks count at row to more lane here inside room goes one none =
      let m : Mark = record { row = row; end = at } in
      let p = begin_of first marks count in
      elim (cases_lt to c.fresh) [
        | inl lt ↦
            let same : count ≡ count + more = omega (arith, none lt) in
            let stays = kept_begin first marks count m count (omega arith) in
            subst (λ n. IsLane first (set marks count m) n (at + 1) to) same
            (kept_marks first marks count m lane.0, subst (λ q. IsOnWay t l c text from q (at + 1) to) (sym stays) (goes_on p at row to lane.1 here (goes.0 lt)))
        | inr ge ↦
            let same : count + 1 ≡ count + more = omega (arith, one ge) in
            let is_there = next_begin first marks count m room in
            subst (λ n. IsLane first (set marks count m) n (at + 1) to) same
            (more_marks first marks count m lane.0 room (cuts p at row to lane.1 here inside goes ge), subst (λ q. IsOnWay t l c text from q (at + 1) to) (sym is_there) (begins at to here (goes.1 ge).1))
      ]

  -- a lane stays what it is where a mark is written behind its own
  pub lane_kept : (first : ℕ) (marks : List Mark) (count at row i : ℕ) (m : Mark) → count ≤ i → IsLane first marks count at row → IsLane first (set marks i m) count at row
  lane_kept first marks count at row i m le lane =
      let same : (k : ℕ) → k < count → get_or (set marks i m) k no_mark ≡ get_or marks k no_mark = λ k lt. get_or-set_other marks i k m no_mark (λ e. absurd (omega (arith, e, lt, le))) in
      let begins_as : (k : ℕ) → k ≤ count → begin_of first (set marks i m) k ≡ begin_of first marks k = begin_kept first marks (set marks i m) count same in (
        λ k lt. cut_as (begin_of first marks k) (end_of marks k) (row_of marks k) _ _ _ (begins_as k (omega (arith, lt))) (ap (λ (x : Mark). x.end) (same k lt)) (ap (λ (x : Mark). x.row) (same k lt)) (lane.0 k lt),
        subst (λ q. IsOnWay t l c text from q at row) (sym (begins_as count (omega arith))) lane.1,
      )

  -- marks of two lanes that meet
  module _ (first : List Mark) (count apart : ℕ) (second : List Mark) (others : ℕ) (marks : List Mark) (total : ℕ) (j : AreJoined first count apart second others marks total) where
    begin_before : (k : ℕ) → k ≤ j.kept → begin_of 0 marks k ≡ begin_of 0 first k
    begin_before zero le = refl
    begin_before (suc k) le = ap (λ (x : Mark). x.end) (j.before k (omega (arith, le)))

    begin_behind : (k : ℕ) → k < j.taken → begin_of 0 marks (j.kept + k) ≡ apart + begin_of 0 second (j.passed + k)
    begin_behind zero lt =
        let none : j.kept + 0 ≡ j.kept = omega arith in
        let also : j.passed ≡ j.passed + 0 = omega arith in
        ap (begin_of 0 marks) none ∙ begin_before j.kept (omega arith) ∙ j.meet lt ∙ ap (λ n. apart + begin_of 0 second n) also
    begin_behind (suc k) lt =
        let one : j.kept + suc k ≡ suc (j.kept + k) = omega arith in
        let also : suc (j.passed + k) ≡ j.passed + suc k = omega arith in
        ap (begin_of 0 marks) one ∙ ap (λ (x : Mark). x.end) (j.behind k (omega (arith, lt))) ∙ ap (λ n. apart + begin_of 0 second n) also

    pub joined_marks : AreMarksOf t l c text from 0 first count → AreMarksOf t l c text (from + apart) 0 second others → AreMarksOf t l c text from 0 marks total
    joined_marks are also k lt = elim (cases_lt k j.kept) [
      | inl before ↦
          let same = j.before k before in
          cut_as (begin_of 0 first k) (end_of first k) (row_of first k) _ _ _ (begin_before k (omega (arith, before))) (ap (λ (x : Mark). x.end) same) (ap (λ (x : Mark). x.row) same)
          (are k (omega (arith, before, j.of_first)))
      | inr behind ↦
          let n = k - j.kept in
          let is : j.kept + n ≡ k = omega arith in
          let some : n < j.taken = omega (arith, lt, j.all) in
          let same = j.behind n some in
          subst (λ i. IsCutAt t l c text from (begin_of 0 marks i) (end_of marks i) (row_of marks i)) is
          (cut_as (apart + begin_of 0 second (j.passed + n)) (apart + end_of second (j.passed + n)) (row_of second (j.passed + n)) _ _ _ (begin_behind n some) (ap (λ (x : Mark). x.end) same)
          (ap (λ (x : Mark). x.row) same)
          (moved apart (begin_of 0 second (j.passed + n)) (end_of second (j.passed + n)) (row_of second (j.passed + n)) (also (j.passed + n) (omega (arith, some, j.of_second)))))
    ]

-- each match ends where its lane is, or before
pub ends_near : (marks : List Mark) (count at row more : ℕ) → ((k : ℕ) → k < count → end_of marks k ≤ at) → count < length marks → (k : ℕ) → k < count + more → more ≤ 1 →
    end_of (set marks count (record { row = row; end = at })) k ≤ at + 1
ends_near marks count at row more near room k lt one =
    let m : Mark = record { row = row; end = at } in
    elim (cases_lt k count) [
      | inl before ↦ omega (arith, ap (λ (x : Mark). x.end) (get_or-set_other marks count k m no_mark (λ e. absurd (omega (arith, e, before)))), near k before)
      | inr behind ↦
          let is : count ≡ k = omega (arith, lt, behind, one) in
          subst (λ i. end_of (set marks count m) i ≤ at + 1) is (omega (arith, ap (λ (x : Mark). x.end) (get_or-set_same marks count m no_mark room)))
    ]
