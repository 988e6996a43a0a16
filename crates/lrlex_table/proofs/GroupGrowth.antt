-- How the table of a group in the making grows.
use Rattle.std.proofs.Common.{◌≡◌, ◌≢◌, ℕ, zero, suc, ◌+◌, ◌*◌, ◌<◌, ◌≤◌, ◌==◌, Bool, true, false, if◌then◌else◌, List, [], ◌∷◌, ◌++◌, length, Option, Some, None, slice_index_or, replicate, append_assoc, append-nil, refl, sym, ap, ◌∙◌, subst, inl, inr, arith}
use Rattle.std.proofs.lemmas.Bool.{cases_lt, cases_eq}
use Rattle.std.proofs.lemmas.List.{get_or_past, get_or_append_left, get_or_push, length_push, map-append}
use Rattle.std.proofs.lemmas.List.Elements.{All-nil}
use Rattle.lrlex_table.specs.Tables.{AreRising}
use Rattle.lrlex_table.specs.Group.{step_row, step_all, first_among, all_starts, ArePastStart, patterns_of, live_rows_at, IsGroupCell, IsGroupCellOf, IsPartialGroup, IsGrouping, HasLiveRows}
use Rattle.lrlex_table.proofs.PartLemmas.{rising_wider, rising_push}

-- ---- the patterns of a row rise

rising_before : (lo n k to : ℕ) (ls : List (ℕ × ℕ)) (dead : Bool) → lo ≤ k → AreRising (k + 1) n (patterns_of ls) →
    AreRising lo n (patterns_of (if dead then ls else (k, to) ∷ ls))
rising_before lo n k to ls true le r = rising_wider (k + 1) n lo n (patterns_of ls) (omega arith) (omega arith) r
rising_before lo n k to ls false le r = (le, r)

pub rising_step : (na : ℕ → List ℕ) (lo n : ℕ) (ls : List (ℕ × ℕ)) (b : ℕ) → AreRising lo n (patterns_of ls) → AreRising lo n (patterns_of (step_all na ls b))
rising_step na lo n [] b r = r
rising_step na lo n (l ∷ ls) b r =
    let to = step_row (na l.0) l.1 (Some b) in
    rising_before lo n l.0 to (step_all na ls b) (to == 0) r.0 (rising_step na (l.0 + 1) n ls b r.1)

pub rising_starts : (sa : ℕ → ℕ) (n : ℕ) → AreRising 0 n (patterns_of (all_starts sa n))
rising_starts sa zero = omega arith
rising_starts sa (suc n) =
    let more : n + 1 ≡ suc n = omega arith in
    subst (AreRising 0 (suc n)) (sym (map-append (λ (l : ℕ × ℕ). l.0) (all_starts sa n) ((n, sa n) ∷ [])))
    (subst (λ hi. AreRising 0 hi (patterns_of (all_starts sa n) ++ n ∷ [])) more (rising_push 0 n (patterns_of (all_starts sa n)) (rising_starts sa n)))

-- what holds of each row, and of one more
each_pushed : (P : List (ℕ × ℕ) → Type 0) (rows : List (List (ℕ × ℕ))) (live_rows : List (ℕ × ℕ)) (r : ℕ) → P (live_rows_at rows r) → P live_rows → P (live_rows_at (rows ++ live_rows ∷ []) r)
each_pushed P rows live_rows r old one =
    let len = length_push rows live_rows in
    elim (cases_lt r (length rows)) [
      | inl lt ↦ subst P (sym (get_or_append_left rows (live_rows ∷ []) [] r lt)) old
      | inr ge ↦ elim (cases_eq r (length rows)) [
        | inl at ↦ subst P (sym (get_or_push rows live_rows [] r (sym at))) one
        | inr past ↦ subst P (get_or_past rows r [] ge ∙ sym (get_or_past (rows ++ live_rows ∷ []) r [] (omega arith))) old
      ]
    ]

-- ---- how the group in the making grows

module _ (n : ℕ) (na : ℕ → List ℕ) (wa : ℕ → List (Option ℕ)) (sa : ℕ → ℕ) where
  abbrev Group : List (List (ℕ × ℕ)) → List ℕ → List (Option ℕ) → Type 0
  Group = IsPartialGroup n na wa sa

  -- with one more row
  pub partial_group_push : (rows : List (List (ℕ × ℕ))) (next : List ℕ) (wins : List (Option ℕ)) (live_rows : List (ℕ × ℕ)) → Group rows next wins →
      ArePastStart sa live_rows → AreRising 0 n (patterns_of live_rows) → Group (rows ++ live_rows ∷ []) next wins
  partial_group_push rows next wins live_rows built past rises =
      let len = length_push rows live_rows in
      let same : (r : ℕ) → r < length rows → live_rows_at (rows ++ live_rows ∷ []) r ≡ live_rows_at rows r = λ r lt. get_or_append_left rows (live_rows ∷ []) [] r lt in
      record {
        some = omega (arith, built.some);
        nothing = same 0 (omega (arith, built.some)) ∙ built.nothing;
        first = same 1 (omega (arith, built.some)) ∙ built.first;
        apart = λ r far. each_pushed (ArePastStart sa) rows live_rows r (built.apart r far) past;
        rising = λ r. each_pushed (λ ls. AreRising 0 n (patterns_of ls)) rows live_rows r (built.rising r) rises;
        wide = built.wide;
        below = omega (arith, built.below);
        fresh = built.fresh;
        inside = λ i. omega (arith, built.inside i, len);
        wins_are = λ r lt. built.wins_are r lt ∙ ap (first_among wa) (sym (same r (omega (arith, built.below))));
        cells = λ r b small lt.
            let old = built.cells r b small lt in
            let v = slice_index_or next (r * 256 + b) 0 in (
              omega (arith, old.0),
              same v old.0 ∙ old.1 ∙ ap (λ ls. step_all na ls b) (sym (same r (omega (arith, built.below, built.wide)))),
            );
      }

  -- the end of a row
  pub partial_group_end : (rows : List (List (ℕ × ℕ))) (next : List ℕ) (wins : List (Option ℕ)) (w : Option ℕ) → Group rows next wins →
      length next ≡ length wins * 256 → length wins < length rows → w ≡ first_among wa (live_rows_at rows (length wins)) → Group rows next (wins ++ w ∷ [])
  partial_group_end rows next wins w built len room is =
      let more = length_push wins w in
      record {
        some = built.some;
        nothing = built.nothing;
        first = built.first;
        apart = built.apart;
        rising = built.rising;
        wide = omega (arith, built.wide);
        below = omega arith;
        fresh = built.fresh;
        inside = built.inside;
        wins_are = λ r lt. elim (cases_lt r (length wins)) [
          | inl low ↦ get_or_append_left wins (w ∷ []) None r low ∙ built.wins_are r low
          | inr high ↦
              let e : length wins ≡ r = omega arith in
              get_or_push wins w None r e ∙ is ∙ ap (λ i. first_among wa (live_rows_at rows i)) e
        ];
        cells = built.cells;
      }

  -- with one more cell
  pub partial_group_cell : (rows : List (List (ℕ × ℕ))) (next : List ℕ) (wins : List (Option ℕ)) (r b v : ℕ) → Group rows next wins → length wins ≡ r + 1 →
      length next ≡ r * 256 + b → b < 256 → v ≢ 1 → IsGroupCell na rows (live_rows_at rows r) b v → Group rows (next ++ v ∷ []) wins
  partial_group_cell rows next wins r b v built made at small other cell =
      let more = length_push next v in
      record {
        some = built.some;
        nothing = built.nothing;
        first = built.first;
        apart = built.apart;
        rising = built.rising;
        wide = omega arith;
        below = built.below;
        fresh = λ i. elim (cases_lt i (length next)) [
          | inl lt ↦ λ e. built.fresh i (sym (get_or_append_left next (v ∷ []) 0 i lt) ∙ e)
          | inr ge ↦ elim (cases_eq i (length next)) [
            | inl here ↦ λ e. other (sym (get_or_push next v 0 i (sym here)) ∙ e)
            | inr past ↦ λ e. absurd (let none : slice_index_or (next ++ v ∷ []) i 0 ≡ 0 = get_or_past (next ++ v ∷ []) i 0 (omega arith) in omega arith)
          ]
        ];
        inside = λ i. elim (cases_lt i (length next)) [
          | inl lt ↦ subst (λ x. x < length rows) (sym (get_or_append_left next (v ∷ []) 0 i lt)) (built.inside i)
          | inr ge ↦ elim (cases_eq i (length next)) [
            | inl here ↦ subst (λ x. x < length rows) (sym (get_or_push next v 0 i (sym here))) cell.0
            | inr past ↦ subst (λ x. x < length rows) (sym (get_or_past (next ++ v ∷ []) i 0 (omega arith))) (omega (arith, built.some))
          ]
        ];
        wins_are = built.wins_are;
        cells = λ s c tiny lt. elim (cases_lt (s * 256 + c) (length next)) [
          | inl low ↦
              subst (IsGroupCell na rows (live_rows_at rows s) c) (sym (get_or_append_left next (v ∷ []) 0 (s * 256 + c) low)) (built.cells s c tiny low)
          | inr high ↦
              let row : r ≡ s = omega arith in
              let byte : b ≡ c = omega arith in
              subst (IsGroupCell na rows (live_rows_at rows s) c) (sym (get_or_push next v 0 (s * 256 + c) (omega arith)))
              (subst (λ i. IsGroupCell na rows (live_rows_at rows s) i v) byte (subst (λ i. IsGroupCell na rows (live_rows_at rows i) b v) row cell))
        ];
      }

  abbrev Grouping : List (List (ℕ × ℕ)) → List ℕ → List (Option ℕ) → ℕ → ℕ → List (ℕ × ℕ) → Type 0
  Grouping = IsGrouping n na wa sa

  -- where the row goes on a byte may be a row of its own
  pub grouping_grows : (old new : List (List (ℕ × ℕ))) (next : List ℕ) (wins : List (Option ℕ)) (row byte : ℕ) (live_rows to : List (ℕ × ℕ)) (v : ℕ) →
      Grouping old next wins row byte live_rows → to ≡ step_all na live_rows byte → ArePastStart sa to → HasLiveRows old new to v → Grouping new next wins row byte live_rows
  grouping_grows old new next wins row byte live_rows to v f steps past has =
      let rises : AreRising 0 n (patterns_of to) =
      subst (λ ls. AreRising 0 n (patterns_of ls)) (sym steps)
      (rising_step na 0 n live_rows byte (subst (λ ls. AreRising 0 n (patterns_of ls)) f.are (f.built.rising row))) in
      record {
        built = elim has.grows [
          | inl e ↦ subst (λ rows. Group rows next wins) (sym e) f.built
          | inr more ↦ subst (λ rows. Group rows next wins) (sym more) (partial_group_push old next wins to f.built past rises)
        ];
        within = elim has.grows [
          | inl e ↦ omega (arith, f.within, ap length e)
          | inr more ↦ omega (arith, f.within, ap length more, length_push old to)
        ];
        made = f.made;
        at = f.at;
        are = elim has.grows [
          | inl e ↦ ap (λ rows. live_rows_at rows row) e ∙ f.are
          | inr more ↦ ap (λ rows. live_rows_at rows row) more ∙ get_or_append_left old (to ∷ []) [] row f.within ∙ f.are
        ];
      }

  pub cell_of_live_rows : (old new : List (List (ℕ × ℕ))) (live_rows to : List (ℕ × ℕ)) (byte v : ℕ) → HasLiveRows old new to v → to ≡ step_all na live_rows byte →
      IsGroupCellOf na new live_rows byte v
  cell_of_live_rows old new live_rows to byte v has steps = (has.other, (has.within, has.is ∙ steps))

  pub grouping_push : (rows : List (List (ℕ × ℕ))) (next : List ℕ) (wins : List (Option ℕ)) (row byte : ℕ) (live_rows : List (ℕ × ℕ)) (v : ℕ) →
      Grouping rows next wins row byte live_rows → IsGroupCellOf na rows live_rows byte v → byte < 256 → Grouping rows (next ++ v ∷ []) wins row (byte + 1) live_rows
  grouping_push rows next wins row byte live_rows v f cell small = record {
    built = partial_group_cell rows next wins row byte v f.built f.made f.at small cell.0 (subst (λ ls. IsGroupCell na rows ls byte v) (sym f.are) cell.1);
    within = f.within;
    made = f.made;
    at = omega (arith, length_push next v, f.at);
    are = f.are;
  }

  -- a run of cells that all go to v
  pub grouping_run : (rows : List (List (ℕ × ℕ))) (next : List ℕ) (wins : List (Option ℕ)) (row byte : ℕ) (live_rows : List (ℕ × ℕ)) (v k : ℕ) →
      Grouping rows next wins row byte live_rows → ((c : ℕ) → byte ≤ c → c < byte + k → IsGroupCellOf na rows live_rows c v) → byte + k ≤ 256 →
      Grouping rows (next ++ replicate k v) wins row (byte + k) live_rows
  grouping_run rows next wins row byte live_rows v zero f cells le =
      subst (λ l. Grouping rows l wins row (byte + 0) live_rows) (sym (append-nil next)) (subst (λ i. Grouping rows next wins row i live_rows) (omega arith) f)
  grouping_run rows next wins row byte live_rows v (suc k) f cells le =
      let one = grouping_push rows next wins row byte live_rows v f (cells byte (omega arith) (omega arith)) (omega arith) in
      let rest = grouping_run rows (next ++ v ∷ []) wins row (byte + 1) live_rows v k one (λ c ge lt. cells c (omega arith) (omega arith)) (omega arith) in
      subst (λ l. Grouping rows l wins row (byte + suc k) live_rows) (append_assoc next (v ∷ []) (replicate k v))
      (subst (λ i. Grouping rows ((next ++ v ∷ []) ++ replicate k v) wins row i live_rows) (omega arith) rest)

  pub grouping_starts : (rows : List (List (ℕ × ℕ))) (next : List ℕ) (wins : List (Option ℕ)) (row : ℕ) (live_rows : List (ℕ × ℕ)) (w : Option ℕ) → Group rows next wins →
      row < length rows → length wins ≡ row → length next ≡ row * 256 → live_rows_at rows row ≡ live_rows → w ≡ first_among wa live_rows → Grouping rows next (wins ++ w ∷ []) row 0 live_rows
  grouping_starts rows next wins row live_rows w built room made at are is = record {
    built = partial_group_end rows next wins w built (omega arith) (omega arith) (is ∙ ap (first_among wa) (sym (ap (live_rows_at rows) made ∙ are)));
    within = room;
    made = omega (arith, length_push wins w);
    at = omega arith;
    are = are;
  }

  -- the first two rows
  pub partial_group_starts : Group ([] ∷ all_starts sa n ∷ []) [] []
  partial_group_starts = record {
    some = omega arith;
    nothing = refl;
    first = refl;
    apart = far;
    rising = rise;
    wide = omega arith;
    below = omega arith;
    fresh = no_cell;
    inside = λ i. in_first i;
    wins_are = λ r lt. absurd (omega arith);
    cells = λ r b small lt. absurd (omega arith);
  }
    where
      no_cell : (i : ℕ) → slice_index_or {A = ℕ} [] i 0 ≡ 1 → ⊥
      no_cell i e = let none : slice_index_or {A = ℕ} [] i 0 ≡ 0 = get_or_past {X = ℕ} [] i 0 (omega arith) in omega arith

      in_first : (i : ℕ) → slice_index_or {A = ℕ} [] i 0 < 2
      in_first i = let none : slice_index_or {A = ℕ} [] i 0 ≡ 0 = get_or_past {X = ℕ} [] i 0 (omega arith) in omega arith

      past_all : (r : ℕ) → slice_index_or {A = List (ℕ × ℕ)} [] r [] ≡ []
      past_all r = get_or_past {X = List (ℕ × ℕ)} [] r [] (omega arith)

      none_past : ArePastStart sa []
      none_past = All-nil (λ (l : ℕ × ℕ). l.1 ≢ sa l.0)

      far : (r : ℕ) → r ≢ 1 → ArePastStart sa (live_rows_at ([] ∷ all_starts sa n ∷ []) r)
      far zero other = none_past
      far (suc zero) other = absurd (other (omega arith))
      far (suc (suc r)) other = subst (ArePastStart sa) (sym (past_all r)) none_past

      rise : (r : ℕ) → AreRising 0 n (patterns_of (live_rows_at ([] ∷ all_starts sa n ∷ []) r))
      rise zero = omega arith
      rise (suc zero) = rising_starts sa n
      rise (suc (suc r)) = subst (λ ls. AreRising 0 n (patterns_of ls)) (sym (past_all r)) (omega arith)
