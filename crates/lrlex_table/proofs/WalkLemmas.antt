-- A walk through the table follows each pattern's threads.
use Rattle.std.proofs.Common.{◌≡◌, ◌≢◌, ℕ, ◌+◌, ◌-◌, ◌<◌, ◌≤◌, Bool, true, false, cond, List, length, Option, Some, None, slice_get, slice_index_or, get_or, take, refl, sym, ap, ◌∙◌, subst, arith}
use Rattle.std.proofs.lemmas.Option.{slice_get-get_or}
use Rattle.regex_nfa.specs.declared.nfa.Nfa.{Nfa}
use Rattle.regex_dfa.specs.Links.{Links, last_after}
use Rattle.regex_dfa.proofs.ForwardLemmas.{Links-refl, Links-trans, link_step}
use Rattle.std.proofs.lemmas.Bool.{cond-true, cond-false}
use Rattle.lrlex_table.specs.Cell.{row_in, is_marked, wins_at}
use Rattle.lrlex_table.proofs.CellLemmas.{some_of, none_of}
use Rattle.lrlex_table.proofs.PrefixLemmas.{alike_less, alike_at, alike_within}
use Rattle.lrlex_table.specs.Table.{next_of, IsFirstMatch, IsAt, IsTableOn, Leads, EndsAsTable, EndsInRow}

-- the best so far after a row that this pattern wins
abbrev pub best_after : Option ℕ → ℕ → ℕ → ℕ
best_after None j best = best
best_after (Some k) j best = j + 1

abbrev pub pattern_after : Option ℕ → ℕ → ℕ
pattern_after None w = w
pattern_after (Some k) w = k

-- what is known at position j in row r, of each text with the same first j bytes
abbrev pub Follows : List ℕ → List (Option ℕ) → ℕ → List ℕ → ℕ → ℕ → ℕ → ℕ → Type 0
Follows next wins start hay j r best w =
    (n : ℕ) (nfa : ℕ → Nfa) (threads : ℕ → ℕ → List ℕ) (matched : ℕ → ℕ → Bool) → IsTableOn next wins start n nfa threads matched hay →
    (last : ℕ → ℕ) × Leads n last best w j
    × ((other : List ℕ) → IsTableOn next wins start n nfa threads matched other → take j other ≡ take j hay →
    ((k : ℕ) → k < n → Links (nfa k) other 0 (threads start k) 0 j (threads r k) (last k)) × (j ≤ length other → IsAt start r j))

unmatched : (b : Bool) (j l : ℕ) → b ≡ false → last_after b j l ≡ l
unmatched b j l e = ap (λ x. last_after x j l) e

met : (b : Bool) (j l : ℕ) → b ≡ true → last_after b j l ≡ j + 1
met b j l e = ap (λ x. last_after x j l) e

after_le : (b : Bool) (j l : ℕ) → l ≤ j → last_after b j l ≤ j + 1
after_le true j l h = omega arith
after_le false j l h = omega arith

leads_none : (n w : ℕ) → Leads n (λ k. 0) 0 w 0
leads_none n w = record {
  most = λ k lt. omega arith;
  is = λ h. absurd (omega arith);
  first = λ h. absurd (omega arith);
  past = omega arith;
}

leads_step : (n : ℕ) (last : ℕ → ℕ) (best w j : ℕ) (m : ℕ → Bool) (win : Option ℕ) → Leads n last best w j → IsFirstMatch n m win →
    Leads n (λ k. last_after (m k) j (last k)) (best_after win j best) (pattern_after win w) (j + 1)
leads_step n last best w j m None l f = record {
  most = λ k lt. omega (arith, l.most k lt, unmatched (m k) j (last k) (f k lt));
  is = λ some. ((l.is some).0, unmatched (m w) j (last w) (f w (l.is some).0) ∙ (l.is some).1);
  first = λ some k lt. omega (arith, l.first some k lt, unmatched (m k) j (last k) (f k (omega (arith, (l.is some).0))));
  past = omega (arith, l.past);
}
leads_step n last best w j m (Some v) l f = record {
  most = λ k lt. after_le (m k) j (last k) (omega (arith, l.most k lt, l.past));
  is = λ some. (f.0, met (m v) j (last v) f.1);
  first = λ some k lt. omega (arith, unmatched (m k) j (last k) (f.2 k lt), l.most k (omega (arith, f.0)), l.past);
  past = omega arith;
}

pub follows_start : (next : List ℕ) (wins : List (Option ℕ)) (start : ℕ) (hay : List ℕ) (w : ℕ) → Follows next wins start hay 0 start 0 w
follows_start next wins start hay w n nfa threads matched t =
    (λ k. 0, leads_none n w, λ other also same. (λ k lt. Links-refl (nfa k) other 0 (threads start k) 0, λ le. (λ e. refl, λ e. refl)))

fresh_at : (next : List ℕ) (wins : List (Option ℕ)) (start n : ℕ) (nfa : ℕ → Nfa) (threads : ℕ → ℕ → List ℕ) (matched : ℕ → ℕ → Bool) (hay : List ℕ) →
    IsTableOn next wins start n nfa threads matched hay → (j r to : ℕ) → j + 1 ≤ length hay → to ≡ next_of next r (slice_get hay j) → to ≢ start
fresh_at next wins start n nfa threads matched hay t j r to le goes e =
    t.fresh r (get_or hay j 0) (ap (next_of next r) (sym (slice_get-get_or hay j 0 (omega arith))) ∙ sym goes ∙ e)

-- one byte further, or to the end
pub follows_step : (next : List ℕ) (wins : List (Option ℕ)) (start : ℕ) (hay : List ℕ) (j r best w to : ℕ) (win : Option ℕ) →
    Follows next wins start hay j r best w → j ≤ length hay → win ≡ slice_index_or wins r None → to ≡ next_of next r (slice_get hay j) →
    Follows next wins start hay (j + 1) to (best_after win j best) (pattern_after win w)
follows_step next wins start hay j r best w to win h within won goes n nfa threads matched t =
    let old = h n nfa threads matched t in (
      λ k. last_after (matched r k) j (old.0 k),
      leads_step n old.0 best w j (matched r) win old.1 (subst (IsFirstMatch n (matched r)) (sym won) (t.wins_are r)),
      λ other also same.
          let here = old.2 other also (alike_less j (j + 1) hay other (omega arith) same) in
          let inside : j ≤ length other = alike_within j hay other within same in
          let there : to ≡ next_of next r (slice_get other j) = goes ∙ ap (next_of next r) (sym (alike_at j (j + 1) hay other (omega arith) same)) in (
            λ k lt.
                subst (λ i. Links (nfa k) other 0 (threads start k) 0 (j + 1) (threads i k) (last_after (matched r k) j (old.0 k))) (sym there)
                (Links-trans (nfa k) other 0 j (j + 1) (threads start k) (threads r k) (threads (next_of next r (slice_get other j)) k) 0 (old.0 k) (last_after (matched r k) j (old.0 k))
                (omega arith) (omega arith) (here.0 k lt)
                (link_step (nfa k) other j (threads r k) (threads (next_of next r (slice_get other j)) k) (matched r k) (old.0 k) (also.moves j r k lt inside (here.1 inside)))),
            λ le. (λ e. absurd (fresh_at next wins start n nfa threads matched other also j r to le there e), λ e. absurd (omega arith)),
          ),
    )

-- a row that is dead
pub follows_dead : (next : List ℕ) (wins : List (Option ℕ)) (start : ℕ) (hay : List ℕ) (j r best w : ℕ) → Follows next wins start hay j r best w → r ≡ 0 →
    EndsAsTable next wins start hay j best w
follows_dead next wins start hay j r best w h dead n nfa threads matched t =
    let old = h n nfa threads matched t in (
      old.0,
      old.1,
      λ other also same k lt.
          subst (λ qs. Links (nfa k) other 0 (threads start k) 0 j qs (old.0 k)) (ap (λ i. threads i k) dead ∙ t.dead k) ((old.2 other also same).0 k lt),
    )

-- What is known in row r at position j, whose own win counts already: the longest match has n bytes, and ends in row `last`.
pub record Stands (next : List ℕ) (wins : List (Option ℕ)) (start : ℕ) (hay : List ℕ) (j r n last : ℕ) : Type 0 where
  pub top : ℕ
  pub pattern : ℕ
  pub follows : Follows next wins start hay j r top pattern
  pub bytes : n ≡ best_after (slice_index_or wins r None) j top - 1
  pub none : n ≡ 0 → slice_index_or wins last None ≡ None
  pub some : 0 < n → slice_index_or wins last None ≡ Some (pattern_after (slice_index_or wins r None) pattern)

no_bytes : (o : Option ℕ) → 0 ≡ best_after o 0 0 - 1
no_bytes None = refl
no_bytes (Some k) = refl

module _ (next : List ℕ) (wins : List (Option ℕ)) (start : ℕ) (hay : List ℕ) where
  pub stands_start : slice_index_or wins 0 None ≡ None → Stands next wins start hay 0 start 0 0
  stands_start dead = record {
    top = 0;
    pattern = 0;
    follows = follows_start next wins start hay 0;
    bytes = no_bytes (slice_index_or wins start None);
    none = λ e. dead;
    some = λ h. absurd (omega arith);
  }

  module _ (j r n last to : ℕ) (s : Stands next wins start hay j r n last) (within : j ≤ length hay) (goes : to ≡ next_of next r (slice_get hay j)) where
    goes_on : Follows next wins start hay (j + 1) to (best_after (slice_index_or wins r None) j s.top) (pattern_after (slice_index_or wins r None) s.pattern)
    goes_on = follows_step next wins start hay j r s.top s.pattern to (slice_index_or wins r None) s.follows within refl goes

    -- to a row where some pattern matches
    pub stands_marked : (k : ℕ) → slice_index_or wins to None ≡ Some k → Stands next wins start hay (j + 1) to (j + 1) to
    stands_marked k won = record {
      top = best_after (slice_index_or wins r None) j s.top;
      pattern = pattern_after (slice_index_or wins r None) s.pattern;
      follows = goes_on;
      bytes = let same : best_after (slice_index_or wins to None) (j + 1) (best_after (slice_index_or wins r None) j s.top) ≡ j + 1 + 1
          = ap (λ o. best_after o (j + 1) (best_after (slice_index_or wins r None) j s.top)) won in omega arith;
      none = λ e. absurd (omega arith);
      some = λ h. won ∙ ap (λ o. Some (pattern_after o (pattern_after (slice_index_or wins r None) s.pattern))) (sym won);
    }

    -- to a row where none does
    pub stands_unmarked : slice_index_or wins to None ≡ None → Stands next wins start hay (j + 1) to n last
    stands_unmarked bare = record {
      top = best_after (slice_index_or wins r None) j s.top;
      pattern = pattern_after (slice_index_or wins r None) s.pattern;
      follows = goes_on;
      bytes = s.bytes ∙ ap (λ o. best_after o (j + 1) (best_after (slice_index_or wins r None) j s.top) - 1) (sym bare);
      none = s.none;
      some = λ h. s.some h ∙ ap (λ o. Some (pattern_after o (pattern_after (slice_index_or wins r None) s.pattern))) (sym bare);
    }

    -- to a dead row
    pub stands_dead : to ≡ 0 → EndsInRow next wins start hay (j + 1) n last
    stands_dead dead = record {
      top = best_after (slice_index_or wins r None) j s.top;
      pattern = pattern_after (slice_index_or wins r None) s.pattern;
      ends = follows_dead next wins start hay (j + 1) to (best_after (slice_index_or wins r None) j s.top) (pattern_after (slice_index_or wins r None) s.pattern) goes_on dead;
      bytes = s.bytes;
      none = s.none;
      some = s.some;
    }

-- what counts at position j, where the walk came to row r by this cell
abbrev pub len_at : ℕ → ℕ → ℕ → ℕ
len_at cell j n = cond (is_marked cell) j n

abbrev pub row_at_last : ℕ → ℕ → ℕ → ℕ
row_at_last cell r last = cond (is_marked cell) r last

-- What is known in row r at position j, where the row's own win counts only once the walk leaves it.
abbrev pub StandsBy : List ℕ → List (Option ℕ) → ℕ → List ℕ → ℕ → ℕ → ℕ → ℕ → ℕ → Type 0
StandsBy next wins start hay cell j r n last = Stands next wins start hay j r (len_at cell j n) (row_at_last cell r last)

module _ (next : List ℕ) (wins : List (Option ℕ)) (start : ℕ) (hay : List ℕ) (cell : ℕ) where
  counted : (j r n last : ℕ) → is_marked cell ≡ true → StandsBy next wins start hay cell j r n last → Stands next wins start hay j r j r
  counted j r n last e s =
      subst (λ m. Stands next wins start hay j r m r) (cond-true _ j n e) (subst (Stands next wins start hay j r (len_at cell j n)) (cond-true _ r last e) s)

  bare : (j r n last : ℕ) → is_marked cell ≡ false → StandsBy next wins start hay cell j r n last → Stands next wins start hay j r n last
  bare j r n last e s =
      subst (λ m. Stands next wins start hay j r m last) (cond-false _ j n e) (subst (Stands next wins start hay j r (len_at cell j n)) (cond-false _ r last e) s)

  as_counted : (j r n last : ℕ) → is_marked cell ≡ true → Stands next wins start hay j r j r → StandsBy next wins start hay cell j r n last
  as_counted j r n last e s =
      subst (λ m. Stands next wins start hay j r m (row_at_last cell r last)) (sym (cond-true _ j n e)) (subst (Stands next wins start hay j r j) (sym (cond-true _ r last e)) s)

  pub as_bare : (j r n last : ℕ) → is_marked cell ≡ false → Stands next wins start hay j r n last → StandsBy next wins start hay cell j r n last
  as_bare j r n last e s =
      subst (λ m. Stands next wins start hay j r m (row_at_last cell r last)) (sym (cond-false _ j n e)) (subst (Stands next wins start hay j r n) (sym (cond-false _ r last e)) s)

  -- where the walk leaves the row
  pub leaves_marked : (j r n last : ℕ) → 32768 ≤ cell → StandsBy next wins start hay cell j r n last → Stands next wins start hay j r j r
  leaves_marked j r n last high s = counted j r n last (grind arith) s

  pub leaves_bare : (j r n last : ℕ) → cell < 32768 → StandsBy next wins start hay cell j r n last → Stands next wins start hay j r n last
  leaves_bare j r n last low s = bare j r n last (grind arith) s

  module _ (j r n last : ℕ) (within : j ≤ length hay) (goes : row_in cell ≡ next_of next r (slice_get hay j)) (mark : is_marked cell ≡ wins_at wins (row_in cell)) where
    comes_by : (b : Bool) → is_marked cell ≡ b → Stands next wins start hay j r n last → StandsBy next wins start hay cell (j + 1) (row_in cell) n last
    comes_by true e s =
        let won = some_of (slice_index_or wins (row_in cell) None) (sym mark ∙ e) in
        as_counted (j + 1) (row_in cell) n last e (stands_marked next wins start hay j r n last (row_in cell) s within goes won.0 won.1)
    comes_by false e s =
        as_bare (j + 1) (row_in cell) n last e
        (stands_unmarked next wins start hay j r n last (row_in cell) s within goes (none_of (slice_index_or wins (row_in cell) None) (sym mark ∙ e)))

    stays_by : (b : Bool) → is_marked cell ≡ b → StandsBy next wins start hay cell j r n last → StandsBy next wins start hay cell (j + 1) (row_in cell) n last
    stays_by true e s =
        let won = some_of (slice_index_or wins (row_in cell) None) (sym mark ∙ e) in
        as_counted (j + 1) (row_in cell) n last e (stands_marked next wins start hay j r j r (row_in cell) (counted j r n last e s) within goes won.0 won.1)
    stays_by false e s = comes_by false e (bare j r n last e s)

    -- the walk comes to a row by the cell
    pub stands_on : Stands next wins start hay j r n last → StandsBy next wins start hay cell (j + 1) (row_in cell) n last
    stands_on s = comes_by _ refl s

    -- and stays there, where it came by the same cell
    pub stands_still : StandsBy next wins start hay cell j r n last → StandsBy next wins start hay cell (j + 1) (row_in cell) n last
    stands_still s = stays_by _ refl s
