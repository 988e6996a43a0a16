-- How far the bytes go that decide what wins.
use Rattle.std.proofs.Common.{◌≡◌, ℕ, ◌+◌, ◌-◌, ◌<◌, ◌≤◌, true, List, [], length, take, drop, get_or, sym, ◌∙◌, subst, inl, inr, arith}
use Rattle.std.proofs.Props.{props}
use Rattle.std.proofs.Math.Logic.{∥∥₁_elim}
use Rattle.std.proofs.lemmas.Bool.{cases_lt}
use Rattle.regex.specs.Patterns.{Re}
use Rattle.lrlex_table.specs.Tables.{AreTablesOf, IsBestAmong}
use Rattle.lrlex_table.specs.declared.tables.Tables.{Tables}
use Rattle.lrlex_definition.specs.StateTables.{patterns_on}
use Rattle.std.proofs.lemmas.List.{length-take-le, get_or-take, take_all}
use Rattle.std.proofs.lemmas.List.Elements.{All-from_get_or}
use Rattle.lrlex_rules.specs.Definition.{Definition}
use Rattle.lrlex_table.specs.Table.{IsLongest, NoneMatches}
use Rattle.lrlex_table.specs.Reach.{IsText, BeginsAlike, IsDecidedBy}
use Rattle.lrlex_table.proofs.PrefixLemmas.{alike_less, alike_len}
use Rattle.lrlex_rules.specs.Active.{is_state, active_places}
use Rattle.lrlex_rules.specs.Tiling.{Item, Wins, top}
use Rattle.lrlex_boundaries.specs.Entries.{plain}
use Rattle.lrlex_boundaries.specs.Boundaries.{Boundary, no_boundary, boundary_at}
use Rattle.lrlex.specs.Reach.{IsLexed}
use Rattle.lrlex.specs.Lookahead.{IsDecided, IsDecidedAt, AreDecided, LooksAhead, IsSafe}
use Rattle.lrlex_rules.proofs.TilingLemmas.{one_len, one_rule, stuck_or_wins}
use Rattle.lrlex_definition.proofs.TableLemmas.{patterns_at, longest_wins, none_stuck, looked_at, looked_all, longest_of, none_of}
use Rattle.lrlex.proofs.ResumeLemmas.{alike_from, kept_up_to, taken_old, taken_new, tile}

pub decided_prop : (d : Definition) (q : ℕ) (text : List ℕ) (reach : ℕ) → IsProp (IsDecided d q text reach)
decided_prop d q text reach = Prim.hlevel props

-- more bytes decide it too
pub decided_more : (d : Definition) (q : ℕ) (text : List ℕ) (reach more : ℕ) → reach ≤ more → IsDecided d q text reach → IsDecided d q text more
decided_more d q text reach more le h = record { wins = λ other is alike k n w. h.wins other is (alike_less reach more text other le alike) k n w }

-- the text and its end decide it
same_whole : (text other : List ℕ) → BeginsAlike (length text + 1) text other → other ≡ text
same_whole text other alike =
    let len = alike_len (length text + 1) text other alike in
    sym (take_all (length text + 1) other (omega (arith, len))) ∙ alike ∙ take_all (length text + 1) text (omega arith)

pub decided_whole : (d : Definition) (q : ℕ) (text : List ℕ) → IsDecided d q text (length text + 1)
decided_whole d q text = record { wins = λ other is alike k n w. subst (λ xs. Wins d q xs k n) (sym (same_whole text other alike)) w }

-- where one tile wins, it is enough that this one wins in the others
decided_by : (d : Definition) (q : ℕ) (text : List ℕ) (reach k n : ℕ) → Wins d q text k n →
    ((other : List ℕ) → IsText other → BeginsAlike reach text other → Wins d q other k n) → IsDecided d q text reach
decided_by d q text reach k n won h = record {
  wins = λ other is alike j m w.
      subst (λ i. Wins d q other i m) (one_rule d q text k n j m won w) (subst (λ i. Wins d q other k i) (one_len d q text k n j m won w) (h other is alike));
}

-- what decides the longest match of the active rules' patterns decides what wins
pub decided_longest : (d : Definition) (q : ℕ) (text places : List ℕ) (reach k n : ℕ) → places ≡ active_places d.states d.rules q →
    IsDecidedBy (patterns_at d places) text reach → IsLongest (patterns_at d places) text k n → IsDecided d q text reach
decided_longest d q text places reach k n are decided longest =
    decided_by d q text reach (get_or places k 0) n (longest_wins d q text places are k n longest)
    (λ other is alike. longest_wins d q other places are k n (decided.wins other is alike k n longest))

-- where nothing wins, there is nothing to decide
pub decided_none : (d : Definition) (q : ℕ) (text places : List ℕ) (reach : ℕ) → places ≡ active_places d.states d.rules q → NoneMatches (patterns_at d places) text → IsDecided d q text reach
decided_none d q text places reach are none = record { wins = λ other is alike k n w. absurd (stuck_or_wins d q text k n (none_stuck d q text places are none) w) }

-- what follows the edit is decided as before, moved with the text
pub decided_moved : (d : Definition) (old new : List ℕ) (m : Boundary) (place far to : ℕ) → drop m.place old ≡ drop place new → far - m.place ≤ to - place →
    IsDecidedAt d old far m → IsDecidedAt d new to (record { place = place; entries = m.entries })
decided_moved d old new m place far to same le h =
    decided_more d (top (plain m.entries)) (drop place new) (far - m.place) (to - place) le (subst (λ xs. IsDecided d (top (plain m.entries)) xs (far - m.place)) same h)

-- what the numbers say of a safe boundary
pub decided_safe : (d : Definition) (text : List ℕ) (bounds : List Boundary) (ahead : List ℕ) (low k : ℕ) → LooksAhead d text bounds ahead → k < length bounds → IsSafe bounds ahead low k →
    AreDecided d text bounds k low
decided_safe d text bounds ahead low k looks within safe = λ i x lt.
    let m = get_or (take k bounds) i x in
    let far : ℕ = (boundary_at bounds k).place + get_or ahead k 0 in
    decided_more d (top (plain m.entries)) (drop m.place text) (far - m.place) (low - m.place) (omega (arith, safe.before)) (looks.decided k within safe.known i x lt)

module _ (d : Definition) (old new : List ℕ) (low : ℕ) (found : List Item) (bounds : List Boundary) (h : IsLexed d old found bounds) (is : IsText new)
    (alike : take low new ≡ take low old) (initial : is_state d 0 ≡ true) where
  decided_at : (k far i : ℕ) → i < k → k < length bounds → AreDecided d old bounds k far → IsDecidedAt d old far (boundary_at bounds i)
  decided_at k far i lt within decided =
      subst (IsDecidedAt d old far) (get_or-take k bounds i no_boundary lt) (decided i no_boundary (omega (arith, length-take-le k bounds (omega arith))))

  at_more : (m : Boundary) (far : ℕ) → far ≤ low → IsDecidedAt d old far m → IsDecidedAt d old low m
  at_more m far le h = decided_more d (top (plain m.entries)) (drop m.place old) (far - m.place) (low - m.place) (omega arith) h

  all_more : (k far : ℕ) → k < length bounds → far ≤ low → AreDecided d old bounds k far → AreDecided d old bounds k low
  all_more k far within le decided = All-from_get_or (IsDecidedAt d old low) (take k bounds) no_boundary (λ i lt.
      at_more (get_or (take k bounds) i no_boundary) far le (decided i no_boundary lt))

  -- what stands before the edit is decided as before
  kept_at : (k far i : ℕ) → i < k → k < length bounds → far ≤ low → AreDecided d old bounds k far → IsDecidedAt d new far (boundary_at bounds i)
  kept_at k far i lt within le decided =
      let m = boundary_at bounds i in
      let t = tile d old new low found bounds h is alike initial i in
      let q = top (plain m.entries) in
      let here = decided_at k far i lt within decided in
      let kept = kept_up_to d old new low found bounds h is alike initial k i within (all_more k far within le decided) (omega arith) in
      let was = taken_old d old new low found bounds h is alike initial i (omega arith) in
      let now = taken_new d old new low found bounds h is alike initial i (omega arith) (at_more m far le here) kept.boundary in
      let front = alike_less (far - m.place) (low - m.place) (drop m.place old) (drop m.place new) (omega arith) (alike_from low m.place old new alike) in
      decided_by d q (drop m.place new) (far - m.place) t.rule t.len now.wins
      (λ other text same. here.wins other text (same ∙ front) t.rule t.len was.wins)

  pub decided_kept : (k far : ℕ) → k < length bounds → far ≤ low → AreDecided d old bounds k far → AreDecided d new bounds k far
  decided_kept k far within le decided = All-from_get_or (IsDecidedAt d new far) (take k bounds) no_boundary (λ i lt.
      let inside : i < k = omega (arith, length-take-le k bounds (omega arith)) in
      subst (IsDecidedAt d new far) (sym (get_or-take k bounds i no_boundary inside)) (kept_at k far i inside within le decided))

-- ---- a walk that no rule is asked after

-- what decides the matches of all active rules decides what wins
module _ (d : Definition) (q : ℕ) (text places others : List ℕ) (are : places ≡ active_places d.states d.rules q) (t : Tables) (listed : others ≡ t.asked.items)
    (served : ∥ AreTablesOf (patterns_on d.rules (active_places d.states d.rules q)) t ∥₁)
    (n k len : ℕ) (past : length others ≤ n) (best : IsBestAmong (patterns_on d.rules places) (looked_at t.parts.items others n) text k len) where
  decided_best : (reach : ℕ) → IsDecidedBy (patterns_on d.rules places) text reach → IsDecided d q text reach
  decided_best reach by =
      let all = looked_all d q text places others are t listed served n past in
      elim (cases_lt 0 len) [
        | inl some ↦ decided_longest d q text places reach k len are by (longest_of (patterns_on d.rules places) text (looked_at t.parts.items others n) all k len best some)
        | inr nothing ↦ decided_none d q text places reach are (none_of (patterns_on d.rules places) text (looked_at t.parts.items others n) all k len best (omega arith))
      ]

  pub decided_look : (reach : ℕ) → others ≡ [] → ((ps : List Re) → AreTablesOf ps t → t.asked.items ≡ [] → IsDecidedBy ps text reach) → IsDecided d q text reach
  decided_look reach none by =
      ∥∥₁_elim (subst (λ xs. ∥ AreTablesOf (patterns_on d.rules xs) t ∥₁) (sym are) served) (decided_prop d q text reach)
      (λ s. decided_best reach (by (patterns_on d.rules places) s (sym listed ∙ none)))
