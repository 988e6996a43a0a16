-- The product of two tables is the table of the patterns of both.
use Rattle.std.proofs.Common.{◌≡◌, ◌≢◌, ℕ, zero, suc, ◌+◌, ◌-◌, ◌*◌, ◌<◌, ◌≤◌, Bool, false, cond, List, All, [], ◌∷◌, ◌++◌, length, Option, Some, None, nat_lt, slice_get, slice_index_or, replicate, append_assoc, append-nil, refl, sym, ap, ◌∙◌, subst, inl, inr, arith}
use Rattle.std.proofs.lemmas.Bool.{cond-true, cond-false, cases_lt, cases_eq, lt-ltb, le-ltb}
use Rattle.std.proofs.lemmas.List.{get_or_past, get_or_append_left, get_or-append_right, length-append, length_push, get_or_push}
use Rattle.regex_hir.specs.Looks.{holds}
use Rattle.regex_nfa.specs.declared.nfa.Nfa.{Nfa}
use Rattle.regex_dfa.specs.Moves.{MovesForward}
use Rattle.regex.specs.Patterns.{Re, empty}
use Rattle.lrlex_table.specs.Table.{next_of, IsFirstMatch, IsAt, IsTableOn, Measures, pattern_at, Serves}
use Rattle.lrlex_table.specs.ProductBuilder.{first_win, pair_at, IsPairCell, IsPairCellOf, IsPartialProduct, IsPairing, HasPair}
use Rattle.lrlex_table.proofs.MovesLemmas.{pick, pick_low, pick_high, pick_nil, first_match_both, first_match_none, moves_none, moves_as}
use Rattle.lrlex_table.proofs.ByteLemmas.{IsByte, byte_at, next_past}

module _ (na nb : List ℕ) (wa wb : List (Option ℕ)) (sa sb m : ℕ) (rows : List (ℕ × ℕ)) (next : List ℕ) (wins : List (Option ℕ))
    (built : IsPartialProduct na nb wa wb sa sb m rows next wins) (full : length wins ≡ length rows) (filled : length next ≡ length rows * 256) where
  -- where a row goes, its two rows go
  pair_after : (r : ℕ) (o : Option ℕ) → r < length rows → IsByte o →
      (next_of next r o < length rows) × (pair_at rows (next_of next r o) ≡ (next_of na (pair_at rows r).0 o, next_of nb (pair_at rows r).1 o))
  pair_after r None lt byte = (omega (arith, built.some), built.nothing)
  pair_after r (Some b) lt byte = let small = byte b refl in built.cells r b small (omega arith)

  -- a row that is at a position has rows that are
  pair_is_at : (r j : ℕ) → IsAt 1 r j → IsAt sa (pair_at rows r).0 j × IsAt sb (pair_at rows r).1 j
  pair_is_at r j at = elim (cases_eq r 1) [
    | inl one ↦
        let pair = ap (pair_at rows) one ∙ built.first in
        ((λ e. at.0 one, λ e. ap (λ (p : ℕ × ℕ). p.0) pair), (λ e. at.0 one, λ e. ap (λ (p : ℕ × ℕ). p.1) pair))
    | inr other ↦
        let far = built.apart r other in
        ((λ e. absurd (far.0 e), λ e. absurd (other (at.1 e))), (λ e. absurd (far.1 e), λ e. absurd (other (at.1 e))))
  ]

  module _ (ps qs : List Re) (a : Serves na wa sa ps) (b : Serves nb wb sb qs) (counted : m ≡ length ps) where
    abbrev nfas : ℕ → Nfa
    nfas = pick m a.nfa b.nfa

    abbrev threads : ℕ → ℕ → List ℕ
    threads r = cond (nat_lt r (length rows)) (pick m (a.threads (pair_at rows r).0) (b.threads (pair_at rows r).1)) (λ k. [])

    abbrev matches : ℕ → ℕ → Bool
    matches r = cond (nat_lt r (length rows)) (pick m (a.matched (pair_at rows r).0) (b.matched (pair_at rows r).1)) (λ k. false)

    threads_live : (r k : ℕ) → r < length rows → threads r k ≡ pick m (a.threads (pair_at rows r).0) (b.threads (pair_at rows r).1) k
    threads_live r k lt = ap (λ (f : ℕ → List ℕ). f k) (cond-true (nat_lt r (length rows)) (pick m (a.threads (pair_at rows r).0) (b.threads (pair_at rows r).1)) (λ k. []) (lt-ltb r (length rows) lt))

    matches_live : (r : ℕ) → r < length rows → matches r ≡ pick m (a.matched (pair_at rows r).0) (b.matched (pair_at rows r).1)
    matches_live r lt = cond-true (nat_lt r (length rows)) (pick m (a.matched (pair_at rows r).0) (b.matched (pair_at rows r).1)) (λ k. false) (lt-ltb r (length rows) lt)

    threads_past : (r k : ℕ) → length rows ≤ r → threads r k ≡ []
    threads_past r k ge = ap (λ (f : ℕ → List ℕ). f k) (cond-false (nat_lt r (length rows)) (pick m (a.threads (pair_at rows r).0) (b.threads (pair_at rows r).1)) (λ k. []) (le-ltb r (length rows) ge))

    matches_past : (r : ℕ) → length rows ≤ r → matches r ≡ (λ k. false)
    matches_past r ge = cond-false (nat_lt r (length rows)) (pick m (a.matched (pair_at rows r).0) (b.matched (pair_at rows r).1)) (λ k. false) (le-ltb r (length rows) ge)

    measures_both : (k : ℕ) → k < length (ps ++ qs) → Measures (nfas k) (pattern_at (ps ++ qs) k)
    measures_both k lt = elim (cases_lt k m) [
      | inl low ↦
          subst (λ f. Measures f (pattern_at (ps ++ qs) k)) (sym (pick_low m a.nfa b.nfa k low))
          (subst (Measures (a.nfa k)) (sym (get_or_append_left ps qs empty k (omega arith))) (a.measures k (omega arith)))
      | inr high ↦
          subst (λ f. Measures f (pattern_at (ps ++ qs) k)) (sym (pick_high m a.nfa b.nfa k high))
          (subst (Measures (b.nfa (k - m))) (sym (get_or-append_right ps qs m k empty (sym counted) high)) (b.measures (k - m) (omega (arith, length-append ps qs))))
    ]

    begins_both : (k : ℕ) → k < length (ps ++ qs) → threads 1 k ≡ (nfas k).start ∷ []
    begins_both k lt =
        let live : threads 1 k ≡ pick m (a.threads sa) (b.threads sb) k =
        threads_live 1 k (omega (arith, built.some)) ∙ ap (λ (p : ℕ × ℕ). pick m (a.threads p.0) (b.threads p.1) k) built.first in
        live ∙ elim (cases_lt k m) as (λ c. pick m (a.threads sa) (b.threads sb) k ≡ (nfas k).start ∷ []) [
          | inl low ↦
              pick_low m (a.threads sa) (b.threads sb) k low ∙ a.begins k (omega arith)
              ∙ ap (λ (f : Nfa). f.start ∷ []) (sym (pick_low m a.nfa b.nfa k low))
          | inr high ↦
              pick_high m (a.threads sa) (b.threads sb) k high ∙ b.begins (k - m) (omega (arith, length-append ps qs))
              ∙ ap (λ (f : Nfa). f.start ∷ []) (sym (pick_high m a.nfa b.nfa k high))
        ]

    module _ (hay : List ℕ) (bytes : All (λ x. x < 256) hay) where
      abbrev ta : IsTableOn na wa sa (length ps) a.nfa a.threads a.matched hay
      ta = a.table hay bytes

      abbrev tb : IsTableOn nb wb sb (length qs) b.nfa b.threads b.matched hay
      tb = b.table hay bytes

      dead_both : (k : ℕ) → threads 0 k ≡ []
      dead_both k =
          threads_live 0 k (omega (arith, built.some)) ∙ ap (λ (p : ℕ × ℕ). pick m (a.threads p.0) (b.threads p.1) k) built.nothing
          ∙ pick_nil m (a.threads 0) (b.threads 0) k [] ta.dead tb.dead

      wins_both : (r : ℕ) → IsFirstMatch (length (ps ++ qs)) (matches r) (slice_index_or wins r None)
      wins_both r = elim (cases_lt r (length rows)) [
        | inl lt ↦
            let both = first_match_both m (length qs) (a.matched (pair_at rows r).0) (b.matched (pair_at rows r).1) _ _
            (subst (λ n. IsFirstMatch n (a.matched (pair_at rows r).0) (slice_index_or wa (pair_at rows r).0 None)) (sym counted) (ta.wins_are (pair_at rows r).0))
            (tb.wins_are (pair_at rows r).1) in
            let count : m + length qs ≡ length (ps ++ qs) = omega (arith, length-append ps qs) in
            subst (λ n. IsFirstMatch n (matches r) (slice_index_or wins r None)) count
            (subst (λ f. IsFirstMatch (m + length qs) f (slice_index_or wins r None)) (sym (matches_live r lt))
            (subst (IsFirstMatch (m + length qs) (pick m (a.matched (pair_at rows r).0) (b.matched (pair_at rows r).1))) (sym (built.wins_are r (omega arith))) both))
        | inr ge ↦
            subst (λ f. IsFirstMatch (length (ps ++ qs)) f (slice_index_or wins r None)) (sym (matches_past r ge))
            (subst (IsFirstMatch (length (ps ++ qs)) (λ k. false)) (sym (get_or_past wins r None (omega arith))) (first_match_none (length (ps ++ qs))))
      ]

      moves_both : (j r k : ℕ) → k < length (ps ++ qs) → j ≤ length hay → IsAt 1 r j →
          MovesForward (nfas k) (λ l. holds l hay j) (threads r k) (slice_get hay j) (threads (next_of next r (slice_get hay j)) k) (matches r k)
      moves_both j r k lt le at = elim (cases_lt r (length rows)) [
        | inl live ↦
            let o = slice_get hay j in
            let p = pair_at rows r in
            let to = pair_after r o live (byte_at hay j bytes) in
            let ats = pair_is_at r j at in
            let here = threads_live r k live in
            let there = threads_live (next_of next r o) k to.0
            ∙ ap (λ (x : ℕ × ℕ). pick m (a.threads x.0) (b.threads x.1) k) to.1 in
            let won = ap (λ (f : ℕ → Bool). f k) (matches_live r live) in
            elim (cases_lt k m) [
              | inl low ↦
                  moves_as (a.nfa k) (nfas k) (λ l. holds l hay j) (a.threads p.0 k) (threads r k) o (a.threads (next_of na p.0 o) k) (threads (next_of next r o) k)
                  (a.matched p.0 k) (matches r k)
                  (pick_low m a.nfa b.nfa k low)
                  (here ∙ pick_low m (a.threads p.0) (b.threads p.1) k low)
                  (there ∙ pick_low m (a.threads (next_of na p.0 o)) (b.threads (next_of nb p.1 o)) k low)
                  (won ∙ pick_low m (a.matched p.0) (b.matched p.1) k low)
                  (ta.moves j p.0 k (omega arith) le ats.0)
              | inr high ↦
                  moves_as (b.nfa (k - m)) (nfas k) (λ l. holds l hay j) (b.threads p.1 (k - m)) (threads r k) o (b.threads (next_of nb p.1 o) (k - m)) (threads (next_of next r o) k)
                  (b.matched p.1 (k - m)) (matches r k)
                  (pick_high m a.nfa b.nfa k high)
                  (here ∙ pick_high m (a.threads p.0) (b.threads p.1) k high)
                  (there ∙ pick_high m (a.threads (next_of na p.0 o)) (b.threads (next_of nb p.1 o)) k high)
                  (won ∙ pick_high m (a.matched p.0) (b.matched p.1) k high)
                  (tb.moves j p.1 (k - m) (omega (arith, length-append ps qs)) le ats.1)
            ]
        | inr past ↦
            let o = slice_get hay j in
            moves_as (nfas k) (nfas k) (λ l. holds l hay j) [] (threads r k) o [] (threads (next_of next r o) k) false (matches r k)
            refl (threads_past r k past)
            (ap (λ i. threads i k) (next_past next (length rows) r o (omega arith) past) ∙ dead_both k)
            (ap (λ (f : ℕ → Bool). f k) (matches_past r past))
            (moves_none (nfas k) (λ l. holds l hay j) o)
      ]

    -- the product is the table of all patterns
    pub serves_both : Serves next wins 1 (ps ++ qs)
    serves_both = record {
      nfa = nfas;
      threads = threads;
      matched = matches;
      measures = measures_both;
      begins = begins_both;
      table = λ hay bytes. record {
        dead = dead_both hay bytes;
        wins_are = wins_both hay bytes;
        fresh = λ r b. built.fresh (r * 256 + b);
        moves = moves_both hay bytes;
      };
    }

-- ---- how the product in the making grows

module _ (na nb : List ℕ) (wa wb : List (Option ℕ)) (sa sb m : ℕ) where
  abbrev ProductBuilder : List (ℕ × ℕ) → List ℕ → List (Option ℕ) → Type 0
  ProductBuilder = IsPartialProduct na nb wa wb sa sb m

  -- with one more row
  pub partial_product_push : (rows : List (ℕ × ℕ)) (next : List ℕ) (wins : List (Option ℕ)) (p : ℕ × ℕ) → ProductBuilder rows next wins → p.0 ≢ sa → p.1 ≢ sb →
      ProductBuilder (rows ++ p ∷ []) next wins
  partial_product_push rows next wins p built other also =
      let len = length_push rows p in
      let same : (r : ℕ) → r < length rows → pair_at (rows ++ p ∷ []) r ≡ pair_at rows r = λ r lt. get_or_append_left rows (p ∷ []) (0, 0) r lt in
      record {
        some = omega (arith, built.some);
        nothing = same 0 (omega (arith, built.some)) ∙ built.nothing;
        first = same 1 (omega (arith, built.some)) ∙ built.first;
        apart = λ r far. elim (cases_lt r (length rows)) [
          | inl lt ↦ subst (λ (q : ℕ × ℕ). (q.0 ≢ sa) × (q.1 ≢ sb)) (sym (same r lt)) (built.apart r far)
          | inr ge ↦ elim (cases_eq r (length rows)) [
            | inl at ↦ subst (λ (q : ℕ × ℕ). (q.0 ≢ sa) × (q.1 ≢ sb)) (sym (get_or_push rows p (0, 0) r (sym at))) (other, also)
            | inr past ↦
                subst (λ (q : ℕ × ℕ). (q.0 ≢ sa) × (q.1 ≢ sb))
                (get_or_past rows r (0, 0) ge ∙ sym (get_or_past (rows ++ p ∷ []) r (0, 0) (omega arith))) (built.apart r far)
          ]
        ];
        wide = built.wide;
        below = omega (arith, built.below);
        fresh = built.fresh;
        inside = λ i. omega (arith, built.inside i, len);
        wins_are = λ r lt.
            subst (λ (q : ℕ × ℕ). slice_index_or wins r None ≡ first_win m (slice_index_or wa q.0 None) (slice_index_or wb q.1 None)) (sym (same r (omega (arith, built.below))))
            (built.wins_are r lt);
        cells = λ r b small lt.
            let old = built.cells r b small lt in
            let v = slice_index_or next (r * 256 + b) 0 in (
              omega (arith, old.0),
              same v old.0 ∙ old.1 ∙ ap (λ (q : ℕ × ℕ). (next_of na q.0 (Some b), next_of nb q.1 (Some b))) (sym (same r (omega (arith, built.below, built.wide)))),
            );
      }

  -- the end of a row
  pub partial_product_end : (rows : List (ℕ × ℕ)) (next : List ℕ) (wins : List (Option ℕ)) (w : Option ℕ) → ProductBuilder rows next wins → length next ≡ length wins * 256 → length wins < length rows →
      w ≡ first_win m (slice_index_or wa (pair_at rows (length wins)).0 None) (slice_index_or wb (pair_at rows (length wins)).1 None) → ProductBuilder rows next (wins ++ w ∷ [])
  partial_product_end rows next wins w built len room is =
      let more = length_push wins w in
      record {
        some = built.some;
        nothing = built.nothing;
        first = built.first;
        apart = built.apart;
        wide = omega (arith, built.wide);
        below = omega arith;
        fresh = built.fresh;
        inside = built.inside;
        wins_are = λ r lt. elim (cases_lt r (length wins)) [
          | inl low ↦ get_or_append_left wins (w ∷ []) None r low ∙ built.wins_are r low
          | inr high ↦
              let e : length wins ≡ r = omega arith in
              get_or_push wins w None r e ∙ is
              ∙ ap (λ i. first_win m (slice_index_or wa (pair_at rows i).0 None) (slice_index_or wb (pair_at rows i).1 None)) e
        ];
        cells = built.cells;
      }

  -- with one more cell
  pub partial_product_cell : (rows : List (ℕ × ℕ)) (next : List ℕ) (wins : List (Option ℕ)) (r b v : ℕ) → ProductBuilder rows next wins → length wins ≡ r + 1 →
      length next ≡ r * 256 + b → b < 256 → v ≢ 1 → IsPairCell na nb rows (pair_at rows r) b v → ProductBuilder rows (next ++ v ∷ []) wins
  partial_product_cell rows next wins r b v built made at small other cell =
      let more = length_push next v in
      record {
        some = built.some;
        nothing = built.nothing;
        first = built.first;
        apart = built.apart;
        wide = omega arith;
        below = built.below;
        fresh = λ i. elim (cases_lt i (length next)) [
          | inl lt ↦ λ e. built.fresh i (sym (get_or_append_left next (v ∷ []) 0 i lt) ∙ e)
          | inr ge ↦ elim (cases_eq i (length next)) [
            | inl here ↦ λ e. other (sym (get_or_push next v 0 i (sym here)) ∙ e)
            | inr past ↦ λ e. absurd (let none : slice_index_or (next ++ v ∷ []) i 0 ≡ 0 = get_or_past (next ++ v ∷ []) i 0 (omega arith) in omega arith)
          ]
        ];
        inside = λ i. elim (cases_lt i (length next)) [
          | inl lt ↦ subst (λ x. x < length rows) (sym (get_or_append_left next (v ∷ []) 0 i lt)) (built.inside i)
          | inr ge ↦ elim (cases_eq i (length next)) [
            | inl here ↦ subst (λ x. x < length rows) (sym (get_or_push next v 0 i (sym here))) cell.0
            | inr past ↦ subst (λ x. x < length rows) (sym (get_or_past (next ++ v ∷ []) i 0 (omega arith))) (omega (arith, built.some))
          ]
        ];
        wins_are = built.wins_are;
        cells = λ s c tiny lt. elim (cases_lt (s * 256 + c) (length next)) [
          | inl low ↦
              subst (IsPairCell na nb rows (pair_at rows s) c) (sym (get_or_append_left next (v ∷ []) 0 (s * 256 + c) low)) (built.cells s c tiny low)
          | inr high ↦
              let row : r ≡ s = omega arith in
              let byte : b ≡ c = omega arith in
              subst (IsPairCell na nb rows (pair_at rows s) c) (sym (get_or_push next v 0 (s * 256 + c) (omega arith)))
              (subst (λ i. IsPairCell na nb rows (pair_at rows s) i v) byte (subst (λ i. IsPairCell na nb rows (pair_at rows i) b v) row cell))
        ];
      }

  abbrev Pairing : List (ℕ × ℕ) → List ℕ → List (Option ℕ) → ℕ → ℕ → ℕ × ℕ → Type 0
  Pairing = IsPairing na nb wa wb sa sb m

  pub pairing_grows : (old new : List (ℕ × ℕ)) (next : List ℕ) (wins : List (Option ℕ)) (row byte : ℕ) (p : ℕ × ℕ) (x y v : ℕ) → Pairing old next wins row byte p →
      HasPair sa sb old new x y v → Pairing new next wins row byte p
  pairing_grows old new next wins row byte p x y v f has = record {
    built = elim has.grows [
      | inl e ↦ subst (λ rows. ProductBuilder rows next wins) (sym e) f.built
      | inr more ↦ subst (λ rows. ProductBuilder rows next wins) (sym more.0) (partial_product_push old next wins (x, y) f.built more.1 more.2)
    ];
    within = elim has.grows [
      | inl e ↦ omega (arith, f.within, ap length e)
      | inr more ↦ omega (arith, f.within, ap length more.0, length_push old (x, y))
    ];
    made = f.made;
    at = f.at;
    are = elim has.grows [
      | inl e ↦ ap (λ rows. pair_at rows row) e ∙ f.are
      | inr more ↦ ap (λ rows. pair_at rows row) more.0 ∙ get_or_append_left old ((x, y) ∷ []) (0, 0) row f.within ∙ f.are
    ];
  }

  pub cell_of_pair : (old new : List (ℕ × ℕ)) (p : ℕ × ℕ) (byte x y v : ℕ) → HasPair sa sb old new x y v → x ≡ next_of na p.0 (Some byte) → y ≡ next_of nb p.1 (Some byte) →
      IsPairCellOf na nb new p byte v
  cell_of_pair old new p byte x y v has left right = (has.other, (has.within, has.is ∙ λ i. (left i, right i)))

  pub pairing_push : (rows : List (ℕ × ℕ)) (next : List ℕ) (wins : List (Option ℕ)) (row byte : ℕ) (p : ℕ × ℕ) (v : ℕ) → Pairing rows next wins row byte p →
      IsPairCellOf na nb rows p byte v → byte < 256 → Pairing rows (next ++ v ∷ []) wins row (byte + 1) p
  pairing_push rows next wins row byte p v f cell small = record {
    built = partial_product_cell rows next wins row byte v f.built f.made f.at small cell.0 (subst (λ q. IsPairCell na nb rows q byte v) (sym f.are) cell.1);
    within = f.within;
    made = f.made;
    at = omega (arith, length_push next v, f.at);
    are = f.are;
  }

  -- a run of cells that all go to v
  pub pairing_run : (rows : List (ℕ × ℕ)) (next : List ℕ) (wins : List (Option ℕ)) (row byte : ℕ) (p : ℕ × ℕ) (v n : ℕ) → Pairing rows next wins row byte p →
      ((c : ℕ) → byte ≤ c → c < byte + n → IsPairCellOf na nb rows p c v) → byte + n ≤ 256 → Pairing rows (next ++ replicate n v) wins row (byte + n) p
  pairing_run rows next wins row byte p v zero f cells le =
      subst (λ l. Pairing rows l wins row (byte + 0) p) (sym (append-nil next)) (subst (λ i. Pairing rows next wins row i p) (omega arith) f)
  pairing_run rows next wins row byte p v (suc n) f cells le =
      let one = pairing_push rows next wins row byte p v f (cells byte (omega arith) (omega arith)) (omega arith) in
      let rest = pairing_run rows (next ++ v ∷ []) wins row (byte + 1) p v n one (λ c ge lt. cells c (omega arith) (omega arith)) (omega arith) in
      subst (λ l. Pairing rows l wins row (byte + suc n) p) (append_assoc next (v ∷ []) (replicate n v))
      (subst (λ i. Pairing rows ((next ++ v ∷ []) ++ replicate n v) wins row i p) (omega arith) rest)

  pub pairing_starts : (rows : List (ℕ × ℕ)) (next : List ℕ) (wins : List (Option ℕ)) (row : ℕ) (p : ℕ × ℕ) (w : Option ℕ) → ProductBuilder rows next wins → row < length rows →
      length wins ≡ row → length next ≡ row * 256 → pair_at rows row ≡ p → w ≡ first_win m (slice_index_or wa p.0 None) (slice_index_or wb p.1 None) →
      Pairing rows next (wins ++ w ∷ []) row 0 p
  pairing_starts rows next wins row p w built room made at are is = record {
    built = partial_product_end rows next wins w built (omega arith) (omega arith)
        (is ∙ ap (λ (q : ℕ × ℕ). first_win m (slice_index_or wa q.0 None) (slice_index_or wb q.1 None)) (sym (ap (pair_at rows) made ∙ are)));
    within = room;
    made = omega (arith, length_push wins w);
    at = omega arith;
    are = are;
  }

  -- the first two rows
  pub partial_product_starts : sa ≢ 0 → sb ≢ 0 → ProductBuilder ((0, 0) ∷ (sa, sb) ∷ []) [] []
  partial_product_starts left right = record {
    some = omega arith;
    nothing = refl;
    first = refl;
    apart = far;
    wide = omega arith;
    below = omega arith;
    fresh = no_cell;
    inside = λ i. in_first i;
    wins_are = λ r lt. absurd (omega arith);
    cells = λ r b small lt. absurd (omega arith);
  }
    where
      no_cell : (i : ℕ) → slice_index_or {A = ℕ} [] i 0 ≡ 1 → ⊥
      no_cell i e = let none : slice_index_or {A = ℕ} [] i 0 ≡ 0 = get_or_past {X = ℕ} [] i 0 (omega arith) in omega arith

      in_first : (i : ℕ) → slice_index_or {A = ℕ} [] i 0 < 2
      in_first i = let none : slice_index_or {A = ℕ} [] i 0 ≡ 0 = get_or_past {X = ℕ} [] i 0 (omega arith) in omega arith

      zero_apart : (0 ≢ sa) × (0 ≢ sb)
      zero_apart = (λ e. left (sym e), λ e. right (sym e))

      far : (r : ℕ) → r ≢ 1 → ((pair_at ((0, 0) ∷ (sa, sb) ∷ []) r).0 ≢ sa) × ((pair_at ((0, 0) ∷ (sa, sb) ∷ []) r).1 ≢ sb)
      far zero other = zero_apart
      far (suc zero) other = absurd (other (omega arith))
      far (suc (suc r)) other =
          subst (λ (q : ℕ × ℕ). (q.0 ≢ sa) × (q.1 ≢ sb)) (sym (get_or_past {X = ℕ × ℕ} [] r (0, 0) (omega arith))) zero_apart
