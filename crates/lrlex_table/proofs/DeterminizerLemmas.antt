-- What a determinizer makes of an NFA is the table of the NFA's pattern.
use Rattle.std.proofs.Common.{◌≡◌, ◌≢◌, ℕ, zero, suc, ◌+◌, ◌*◌, ◌<◌, ◌≤◌, ◌==◌, Bool, true, false, not, if◌then◌else◌, List, All, [], ◌∷◌, ◌++◌, length, vec_len, get_or, Option, Some, None, is_some, slice_get, slice_index, slice_index_or, replicate, set, refl, sym, ap, ◌∙◌, subst, inl, inr, arith, ne_eqb}
use Rattle.std.proofs.lemmas.Bool.{cond-false, cases_lt, cases_eq}
use Rattle.std.proofs.lemmas.List.{get_or-set_other, get_or_past, get_or_append_left, get_or_push, length_push}
use Rattle.std.proofs.lemmas.Option.{slice_get-get_or, same_Some, none-some}
use Rattle.std.proofs.lemmas.Grind.{get_or-set_at}
use Rattle.regex_hir.specs.Text.{is_some_and, byte_before}
use Rattle.regex_hir.specs.Looks.{holds, is_edge, is_lf, side_before}
use Rattle.regex_hir.proofs.TextLemmas.{byte_before-zero, byte_before-add-one}
use Rattle.regex_nfa.specs.declared.nfa.Nfa.{Nfa}
use Rattle.regex_dfa.specs.Moves.{MovesForward}
use Rattle.regex_dfa.specs.Walks.{AreStates}
use Rattle.regex_dfa.specs.Classes.{AreAlike}
use Rattle.regex_dfa.specs.declared.kinds.Needs.{Needs}
use Rattle.regex_dfa.specs.declared.dfa.Dfa.{Dfa}
use Rattle.regex_dfa.proofs.MovesLemmas.{Moves-alike, alike_of_class}
use Rattle.regex.specs.Patterns.{Re}
use Rattle.lrlex_table.specs.Table.{next_of, IsFirstMatch, IsAt, Measures, pattern_at, Serves}
use Rattle.lrlex_table.specs.Determinizer.{AsksForStarts, side_at, no_side, StepsFrom, StepsOn, win_of, threads_at, is_won, IsCell, IsCellOf, IsPartialDfa, IsFilling, HasRow, ClassesLead}
use Rattle.lrlex_table.proofs.MovesLemmas.{moves_none, moves_as}
use Rattle.lrlex_table.proofs.SideLemmas.{agrees_at_start}
use Rattle.lrlex_table.proofs.ByteLemmas.{IsByte, byte_at, next_past}

-- ---- sides

edge_of_byte : (s t : Option ℕ) → s ≡ t → not (is_some s) ≡ not (is_some t)
edge_of_byte s t e = ap (λ o. not (is_some o)) e

lf_of_byte : (s t : Option ℕ) → s ≡ t → is_some_and s (λ b. b == 10) ≡ is_some_and t (λ b. b == 10)
lf_of_byte s t e = ap (λ o. is_some_and o (λ b. b == 10)) e

lf_of_line : (line : Bool) → line ≡ ((if line then 10 else 0) == 10)
lf_of_line true = refl
lf_of_line false = refl

later_side : (r : ℕ) (line : Bool) → r ≢ 1 → (side_at r line).byte ≡ Some (if line then 10 else 0)
later_side r line other = cond-false (r == 1) None (Some (if line then 10 else 0)) (ne_eqb r 1 other)

-- past the start there is a byte, and the row isn't the first
later : (j r : ℕ) → IsAt 1 r (suc j) → r ≢ 1
later j r at e = absurd (let zero_is : suc j ≡ 0 = at.0 e in omega arith)

pub edge_at : (hay : List ℕ) (j r : ℕ) (line : Bool) → j ≤ length hay → IsAt 1 r j → is_edge (side_before hay j) ≡ is_edge (side_at r line)
edge_at hay zero r line le at =
    edge_of_byte (byte_before hay 0) None (byte_before-zero hay)
    ∙ sym (ap (λ i. is_edge (side_at i line)) (at.1 refl))
edge_at hay (suc j) r line le at =
    let more : suc j ≡ j + 1 = omega arith in
    edge_of_byte (byte_before hay (suc j)) (Some (get_or hay j 0)) (ap (byte_before hay) more ∙ byte_before-add-one hay j ∙ slice_get-get_or hay j 0 (omega arith))
    ∙ sym (edge_of_byte (side_at r line).byte (Some (if line then 10 else 0)) (later_side r line (later j r at)))

pub lf_at : (hay : List ℕ) (j r : ℕ) → IsAt 1 r j → is_lf (side_before hay j) ≡ is_lf (side_at r (is_lf (side_before hay j)))
lf_at hay zero r at =
    lf_of_byte (byte_before hay 0) None (byte_before-zero hay)
    ∙ sym (ap (λ i. is_lf (side_at i (is_lf (side_before hay 0)))) (at.1 refl))
lf_at hay (suc j) r at =
    let line = is_lf (side_before hay (suc j)) in
    lf_of_line line ∙ sym (lf_of_byte (side_at r line).byte (Some (if line then 10 else 0)) (later_side r line (later j r at)))

first_match_one : (b : Bool) → IsFirstMatch 1 (λ k. b) (win_of b)
first_match_one true = (omega arith, refl, λ k lt. absurd (omega arith))
first_match_one false = λ k lt. refl

module _ (nfa : Nfa) (rows : List (List ℕ)) (next : List ℕ) (wins : List (Option ℕ)) (only : AsksForStarts nfa)
    (built : IsPartialDfa nfa rows next wins) (full : length wins ≡ length rows) (filled : length next ≡ length rows * 256) where
  step_at : (r : ℕ) (o : Option ℕ) → r < length rows → IsByte o →
      StepsOn nfa r o (threads_at rows r) (threads_at rows (next_of next r o)) (is_won wins r)
  step_at r None lt byte =
      subst (λ qs. StepsOn nfa r None (threads_at rows r) qs (is_won wins r)) (sym built.nothing) (built.ends r (omega arith))
  step_at r (Some b) lt byte = let small = byte b refl in (built.cells r b small (omega arith)).1

  moves_at : (hay : List ℕ) → All (λ x. x < 256) hay → (j r : ℕ) → j ≤ length hay → IsAt 1 r j →
      MovesForward nfa (λ l. holds l hay j) (threads_at rows r) (slice_get hay j) (threads_at rows (next_of next r (slice_get hay j))) (is_won wins r)
  unfolding StepsOn StepsFrom
  moves_at hay bytes j r le at = elim (cases_lt r (length rows)) [
    | inl lt ↦
        let line = is_lf (side_before hay j) in
        step_at r (slice_get hay j) lt (byte_at hay j bytes) line (λ l. holds l hay j)
        (agrees_at_start nfa hay j (side_at r line) no_side only (edge_at hay j r line le at) (lf_at hay j r at))
    | inr past ↦
        let o = slice_get hay j in
        moves_as nfa nfa (λ l. holds l hay j) [] (threads_at rows r) o [] (threads_at rows (next_of next r o)) false (is_won wins r)
        refl (get_or_past rows r [] past)
        (ap (threads_at rows) (next_past next (length rows) r o (omega arith) past) ∙ built.nothing)
        (ap is_some (get_or_past wins r None (omega arith)))
        (moves_none nfa (λ l. holds l hay j) o)
  ]

  pub serves_one : (re : Re) → Measures nfa re → Serves next wins 1 (re ∷ [])
  serves_one re measures = record {
    nfa = λ k. nfa;
    threads = λ r k. threads_at rows r;
    matched = λ r k. is_won wins r;
    measures = λ k lt. let zero_is : 0 ≡ k = omega arith in subst (λ i. Measures nfa (pattern_at (re ∷ []) i)) zero_is measures;
    begins = λ k lt. built.first;
    table = λ hay bytes. record {
      dead = λ k. built.nothing;
      wins_are = λ r. subst (IsFirstMatch 1 (λ k. is_won wins r)) (sym (built.wins_are r)) (first_match_one (is_won wins r));
      fresh = λ r b. built.fresh (r * 256 + b);
      moves = λ j r k lt le at. moves_at hay bytes j r le at;
    };
  }

-- ---- how the table in the making grows

pub AreStates-push : (nfa : Nfa) (rows : List (List ℕ)) (threads : List ℕ) → ((r : ℕ) → AreStates nfa (threads_at rows r)) → AreStates nfa threads →
    (r : ℕ) → AreStates nfa (threads_at (rows ++ threads ∷ []) r)
AreStates-push nfa rows threads old one r = elim (cases_lt r (length rows)) [
  | inl lt ↦ subst (AreStates nfa) (sym (get_or_append_left rows (threads ∷ []) [] r lt)) (old r)
  | inr ge ↦ elim (cases_eq r (length rows)) [
    | inl at ↦ subst (AreStates nfa) (sym (get_or_push rows threads [] r (sym at))) one
    | inr past ↦
        subst (AreStates nfa) (sym (get_or_past (rows ++ threads ∷ []) r [] (let len = length_push rows threads in omega arith))) (λ k d h. absurd (omega arith))
  ]
]

-- with one more row
pub partial_dfa_push : (nfa : Nfa) (rows : List (List ℕ)) (next : List ℕ) (wins : List (Option ℕ)) (threads : List ℕ) → IsPartialDfa nfa rows next wins → AreStates nfa threads →
    IsPartialDfa nfa (rows ++ threads ∷ []) next wins
partial_dfa_push nfa rows next wins threads built states =
    let len = length_push rows threads in
    let same : (r : ℕ) → r < length rows → threads_at (rows ++ threads ∷ []) r ≡ threads_at rows r = λ r lt. get_or_append_left rows (threads ∷ []) [] r lt in
    record {
      some = omega (arith, built.some);
      nothing = same 0 (omega (arith, built.some)) ∙ built.nothing;
      first = same 1 (omega (arith, built.some)) ∙ built.first;
      states = AreStates-push nfa rows threads built.states states;
      wide = built.wide;
      below = omega (arith, built.below);
      fresh = built.fresh;
      inside = λ i. omega (arith, built.inside i, len);
      wins_are = built.wins_are;
      ends = λ r lt. subst (λ qs. StepsOn nfa r None qs [] (is_won wins r)) (sym (same r (omega (arith, built.below)))) (built.ends r lt);
      cells = λ r b small lt.
          let old = built.cells r b small lt in
          let v = slice_index_or next (r * 256 + b) 0 in (
            omega (arith, old.0),
            subst (λ qs. StepsOn nfa r (Some b) qs (threads_at (rows ++ threads ∷ []) v) (is_won wins r)) (sym (same r (omega (arith, built.below, built.wide))))
                (subst (λ qs. StepsOn nfa r (Some b) (threads_at rows r) qs (is_won wins r)) (sym (same v old.0)) old.1),
          );
    }

pub partial_dfa_grows : (nfa : Nfa) (old new : List (List ℕ)) (next : List ℕ) (wins : List (Option ℕ)) (threads : List ℕ) (v : ℕ) → IsPartialDfa nfa old next wins → AreStates nfa threads →
    HasRow old new threads v → IsPartialDfa nfa new next wins
partial_dfa_grows nfa old new next wins threads v built states has = elim has.grows [
  | inl same ↦ subst (λ rows. IsPartialDfa nfa rows next wins) (sym same) built
  | inr more ↦ subst (λ rows. IsPartialDfa nfa rows next wins) (sym more) (partial_dfa_push nfa old next wins threads built states)
]

-- the end of a row, and whether it matches
won_pushed : (b : Bool) → win_of b ≡ win_of (is_some (win_of b))
won_pushed true = refl
won_pushed false = refl

won_is : (b : Bool) → is_some (win_of b) ≡ b
won_is true = refl
won_is false = refl

pub partial_dfa_end : (nfa : Nfa) (rows : List (List ℕ)) (next : List ℕ) (wins : List (Option ℕ)) (b : Bool) → IsPartialDfa nfa rows next wins → length next ≡ length wins * 256 →
    length wins < length rows → StepsOn nfa (length wins) None (threads_at rows (length wins)) [] b →
    IsPartialDfa nfa rows next (wins ++ win_of b ∷ []) × (is_won (wins ++ win_of b ∷ []) (length wins) ≡ b)
partial_dfa_end nfa rows next wins b built len room steps =
    let more = length_push wins (win_of b) in
    let at : slice_index_or (wins ++ win_of b ∷ []) (length wins) None ≡ win_of b = get_or_push wins (win_of b) None (length wins) refl in
    let same : (r : ℕ) → r < length wins → slice_index_or (wins ++ win_of b ∷ []) r None ≡ slice_index_or wins r None = λ r lt. get_or_append_left wins (win_of b ∷ []) None r lt in
    let here : is_won (wins ++ win_of b ∷ []) (length wins) ≡ b = ap is_some at ∙ won_is b in (
      record {
        some = built.some;
        nothing = built.nothing;
        first = built.first;
        states = built.states;
        wide = omega (arith, built.wide);
        below = omega arith;
        fresh = built.fresh;
        inside = built.inside;
        wins_are = λ r. elim (cases_lt r (length wins)) [
          | inl lt ↦ same r lt ∙ built.wins_are r ∙ ap (λ o. win_of (is_some o)) (sym (same r lt))
          | inr ge ↦ elim (cases_eq r (length wins)) [
            | inl e ↦
                let now : slice_index_or (wins ++ win_of b ∷ []) r None ≡ win_of b = get_or_push wins (win_of b) None r (sym e) in
                now ∙ won_pushed b ∙ ap (λ o. win_of (is_some o)) (sym now)
            | inr past ↦
                let none : slice_index_or (wins ++ win_of b ∷ []) r None ≡ None = get_or_past (wins ++ win_of b ∷ []) r None (omega arith) in
                none ∙ ap (λ o. win_of (is_some o)) (sym none)
          ]
        ];
        ends = λ r lt. elim (cases_lt r (length wins)) [
          | inl low ↦ subst (λ m. StepsOn nfa r None (threads_at rows r) [] m) (sym (ap is_some (same r low))) (built.ends r low)
          | inr high ↦
              let e : length wins ≡ r = omega arith in
              subst (λ i. StepsOn nfa i None (threads_at rows i) [] (is_won (wins ++ win_of b ∷ []) i)) e
              (subst (λ m. StepsOn nfa (length wins) None (threads_at rows (length wins)) [] m) (sym here) steps)
        ];
        cells = λ r c small lt.
            subst (λ m. IsCell nfa rows m r c (slice_index_or next (r * 256 + c) 0)) (sym (ap is_some (same r (omega arith)))) (built.cells r c small lt);
      },
      here,
    )

-- with one more cell
pub partial_dfa_cell : (nfa : Nfa) (rows : List (List ℕ)) (next : List ℕ) (wins : List (Option ℕ)) (r b v : ℕ) → IsPartialDfa nfa rows next wins → length wins ≡ r + 1 →
    length next ≡ r * 256 + b → b < 256 → v ≢ 1 → IsCell nfa rows (is_won wins r) r b v → IsPartialDfa nfa rows (next ++ v ∷ []) wins
partial_dfa_cell nfa rows next wins r b v built made at small other cell =
    let more = length_push next v in
    record {
      some = built.some;
      nothing = built.nothing;
      first = built.first;
      states = built.states;
      wide = omega arith;
      below = built.below;
      fresh = λ i. elim (cases_lt i (length next)) [
        | inl lt ↦ λ e. built.fresh i (sym (get_or_append_left next (v ∷ []) 0 i lt) ∙ e)
        | inr ge ↦ elim (cases_eq i (length next)) [
          | inl here ↦ λ e. other (sym (get_or_push next v 0 i (sym here)) ∙ e)
          | inr past ↦ λ e. absurd (let none : slice_index_or (next ++ v ∷ []) i 0 ≡ 0 = get_or_past (next ++ v ∷ []) i 0 (omega arith) in omega arith)
        ]
      ];
      inside = λ i. elim (cases_lt i (length next)) [
        | inl lt ↦ subst (λ x. x < length rows) (sym (get_or_append_left next (v ∷ []) 0 i lt)) (built.inside i)
        | inr ge ↦ elim (cases_eq i (length next)) [
          | inl here ↦ subst (λ x. x < length rows) (sym (get_or_push next v 0 i (sym here))) cell.0
          | inr past ↦ subst (λ x. x < length rows) (sym (get_or_past (next ++ v ∷ []) i 0 (omega arith))) (omega (arith, built.some))
        ]
      ];
      wins_are = built.wins_are;
      ends = built.ends;
      cells = λ s c tiny lt. elim (cases_lt (s * 256 + c) (length next)) [
        | inl low ↦
            subst (IsCell nfa rows (is_won wins s) s c) (sym (get_or_append_left next (v ∷ []) 0 (s * 256 + c) low)) (built.cells s c tiny low)
        | inr high ↦
            let row : r ≡ s = omega arith in
            let byte : b ≡ c = omega arith in
            subst (IsCell nfa rows (is_won wins s) s c) (sym (get_or_push next v 0 (s * 256 + c) (omega arith)))
            (subst (λ i. IsCell nfa rows (is_won wins s) s i v) byte (subst (λ i. IsCell nfa rows (is_won wins i) i b v) row cell))
      ];
    }

-- bytes that are alike lead alike
pub cell_alike : (nfa : Nfa) (needs : Needs) (rows : List (List ℕ)) (m : Bool) (r a b v : ℕ) → AreAlike nfa needs a b → IsCell nfa rows m r a v → IsCell nfa rows m r b v
unfolding StepsOn StepsFrom
cell_alike nfa needs rows m r a b v alike cell =
    (cell.0, λ line test agrees. Moves-alike false nfa needs test (threads_at rows r) a b (threads_at rows v) m alike (cell.1 line test agrees))

-- ---- where the classes of a row lead

cell_grows : (nfa : Nfa) (old new : List (List ℕ)) (m : Bool) (r b v : ℕ) (threads : List ℕ) (w : ℕ) → r < length old → HasRow old new threads w →
    IsCellOf nfa old m r b v → IsCellOf nfa new m r b v
cell_grows nfa old new m r b v threads w room has cell = elim has.grows [
  | inl same ↦ subst (λ rows. IsCellOf nfa rows m r b v) (sym same) cell
  | inr more ↦
      subst (λ rows. IsCellOf nfa rows m r b v) (sym more) (
        cell.0,
        (
          omega (arith, cell.1.0, length_push old threads),
          subst (λ qs. StepsOn nfa r (Some b) qs (threads_at (old ++ threads ∷ []) v) m) (sym (get_or_append_left old (threads ∷ []) [] r room))
              (subst (λ qs. StepsOn nfa r (Some b) (threads_at old r) qs m) (sym (get_or_append_left old (threads ∷ []) [] v cell.1.0)) cell.1.1),
        ),
      )
]

pub classes_none : (dfa : Dfa) (rows : List (List ℕ)) (m : Bool) (r n : ℕ) → ClassesLead dfa rows m r (replicate n None)
classes_none dfa rows m r n b v small is = absurd (none-some v (sym (none_at n (slice_index dfa.class_of b)) ∙ is))
  where
    none_at : (n k : ℕ) → slice_index_or {A = Option ℕ} (replicate n None) k None ≡ None
    none_at zero k = get_or_past {X = Option ℕ} [] k None (omega arith)
    none_at (suc n) zero = refl
    none_at (suc n) (suc k) = none_at n k

pub classes_grow : (dfa : Dfa) (old new : List (List ℕ)) (m : Bool) (r : ℕ) (led : List (Option ℕ)) (threads : List ℕ) (w : ℕ) → r < length old → HasRow old new threads w →
    ClassesLead dfa old m r led → ClassesLead dfa new m r led
classes_grow dfa old new m r led threads w room has lead b v small is = cell_grows dfa.nfa old new m r b v threads w room has (lead b v small is)

-- the class of a byte, where the byte's cell is known
pub classes_set : (dfa : Dfa) (rows : List (List ℕ)) (m : Bool) (r : ℕ) (led : List (Option ℕ)) (byte to : ℕ) → byte < 256 → slice_index dfa.class_of byte < length led →
    ClassesLead dfa rows m r led → IsCellOf dfa.nfa rows m r byte to → ClassesLead dfa rows m r (set led (slice_index dfa.class_of byte) (Some to))
classes_set dfa rows m r led byte to low room lead cell b v small is =
    let class = slice_index dfa.class_of byte in
    elim (cases_eq (slice_index dfa.class_of b) class) [
      | inl same ↦
          let at : slice_index_or (set led class (Some to)) (slice_index dfa.class_of b) None ≡ Some to = get_or-set_at led class (slice_index dfa.class_of b) (Some to) None same room in
          let here : to ≡ v = same_Some to v (sym at ∙ is) in
          subst (IsCellOf dfa.nfa rows m r b) here
          (cell.0, cell_alike dfa.nfa dfa.needs rows m r byte b to (alike_of_class dfa byte b low small (sym same)) cell.1)
      | inr other ↦ lead b v small (sym (get_or-set_other led class (slice_index dfa.class_of b) (Some to) None other) ∙ is)
    ]

-- ---- a row while it is filled

pub filling_kept : (nfa : Nfa) (old new : List (List ℕ)) (next : List ℕ) (wins : List (Option ℕ)) (row byte : ℕ) (threads to : List ℕ) (matched : Bool) (v : ℕ) →
    IsFilling nfa old next wins row byte threads matched → AreStates nfa to → HasRow old new to v → IsFilling nfa new next wins row byte threads matched
filling_kept nfa old new next wins row byte threads to matched v f states has = record {
  built = partial_dfa_grows nfa old new next wins to v f.built states has;
  within = elim has.grows [
    | inl e ↦ omega (arith, f.within, ap length e)
    | inr more ↦ omega (arith, f.within, ap length more, length_push old to)
  ];
  made = f.made;
  at = f.at;
  are = f.are ∙ sym (elim has.grows [
    | inl e ↦ ap (λ rows. threads_at rows row) e
    | inr more ↦ ap (λ rows. threads_at rows row) more ∙ get_or_append_left old (to ∷ []) [] row f.within
  ]);
  won = f.won;
}

pub filling_cell : (nfa : Nfa) (old new : List (List ℕ)) (next : List ℕ) (wins : List (Option ℕ)) (row byte : ℕ) (threads to : List ℕ) (matched : Bool) (v : ℕ) →
    IsFilling nfa new next wins row byte threads matched → HasRow old new to v → StepsOn nfa row (Some byte) threads to matched → IsCellOf nfa new matched row byte v
filling_cell nfa old new next wins row byte threads to matched v f has steps = (
  has.other,
  (
    has.within,
    subst (λ qs. StepsOn nfa row (Some byte) qs (threads_at new v) matched) f.are
        (subst (λ qs. StepsOn nfa row (Some byte) threads qs matched) (sym has.is) steps),
  ),
)

pub filling_push : (nfa : Nfa) (rows : List (List ℕ)) (next : List ℕ) (wins : List (Option ℕ)) (row byte : ℕ) (threads : List ℕ) (matched : Bool) (v : ℕ) →
    IsFilling nfa rows next wins row byte threads matched → IsCellOf nfa rows matched row byte v → byte < 256 →
    IsFilling nfa rows (next ++ v ∷ []) wins row (byte + 1) threads matched
filling_push nfa rows next wins row byte threads matched v f cell small = record {
  built = partial_dfa_cell nfa rows next wins row byte v f.built f.made f.at small cell.0 (subst (λ m. IsCell nfa rows m row byte v) (sym f.won) cell.1);
  within = f.within;
  made = f.made;
  at = omega (arith, length_push next v, f.at);
  are = f.are;
  won = f.won;
}

pub filling_starts : (nfa : Nfa) (rows : List (List ℕ)) (next : List ℕ) (wins : List (Option ℕ)) (row : ℕ) (threads : List ℕ) (matched : Bool) → IsPartialDfa nfa rows next wins →
    row < length rows → length wins ≡ row → length next ≡ row * 256 → threads ≡ threads_at rows row → StepsOn nfa row None threads [] matched →
    IsFilling nfa rows next (wins ++ win_of matched ∷ []) row 0 threads matched
filling_starts nfa rows next wins row threads matched built room made at are steps =
    let ended = partial_dfa_end nfa rows next wins matched built (omega arith) (omega arith)
    (subst (λ i. StepsOn nfa i None (threads_at rows i) [] matched) (sym made) (subst (λ qs. StepsOn nfa row None qs [] matched) are steps)) in
    record {
      built = ended.0;
      within = room;
      made = omega (arith, length_push wins (win_of matched));
      at = omega arith;
      are = are;
      won = subst (λ i. is_won (wins ++ win_of matched ∷ []) i ≡ matched) made ended.1;
    }

-- the table in the making, with no row filled
pub partial_dfa_starts : (nfa : Nfa) → nfa.start < vec_len nfa.states → IsPartialDfa nfa ([] ∷ (nfa.start ∷ []) ∷ []) [] []
partial_dfa_starts nfa start_in = record {
  some = omega arith;
  nothing = refl;
  first = refl;
  states = states_first;
  wide = omega arith;
  below = omega arith;
  fresh = no_cell;
  inside = λ i. in_first i;
  wins_are = no_win;
  ends = λ r lt. absurd (omega arith);
  cells = λ r b small lt. absurd (omega arith);
}
  where
    no_cell : (i : ℕ) → slice_index_or {A = ℕ} [] i 0 ≡ 1 → ⊥
    no_cell i e = let none : slice_index_or {A = ℕ} [] i 0 ≡ 0 = get_or_past {X = ℕ} [] i 0 (omega arith) in omega arith

    in_first : (i : ℕ) → slice_index_or {A = ℕ} [] i 0 < 2
    in_first i = let none : slice_index_or {A = ℕ} [] i 0 ≡ 0 = get_or_past {X = ℕ} [] i 0 (omega arith) in omega arith

    no_win : (r : ℕ) → slice_index_or {A = Option ℕ} [] r None ≡ win_of (is_won [] r)
    no_win r =
        let none : slice_index_or {A = Option ℕ} [] r None ≡ None = get_or_past {X = Option ℕ} [] r None (omega arith) in
        none ∙ ap (λ (o : Option ℕ). win_of (is_some o)) (sym none)

    states_first : (r : ℕ) → AreStates nfa (threads_at ([] ∷ (nfa.start ∷ []) ∷ []) r)
    states_first zero = λ k d h. absurd (omega arith)
    states_first (suc zero) = λ k d h. let zero_is : 0 ≡ k = omega arith in subst (λ i. slice_index_or (nfa.start ∷ []) i d < vec_len nfa.states) zero_is start_in
    states_first (suc (suc r)) = λ k d h. absurd (omega (arith, ap (length {A = ℕ}) (get_or_past [] r [] (omega arith))))
