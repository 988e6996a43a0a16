-- A pattern that is the winner of no row never wins: each text's longest match ends in some row.
use Rattle.std.proofs.Common.{◌≡◌, ◌≢◌, zero, suc, ℕ, ◌+◌, ◌<◌, ◌≤◌, Bool, true, false, List, [], length, map, get_or, Option, Some, None, slice_get, slice_index_or, refl, sym, ap, ◌∙◌, subst, inl, inr, arith, true≢false}
use Rattle.std.proofs.lemmas.Bool.{cases_lt}
use Rattle.std.proofs.lemmas.Option.{slice_get-get_or, slice_get_past, none-some, same_Some}
use Rattle.std.proofs.lemmas.List.{get_or_default, get_or_past, length-map}
use Rattle.regex.specs.Patterns.{Re}
use Rattle.lrlex_table.specs.Table.{next_of, next_rows, EndsInRow, Serves, IsTableOf, pattern_at, IsLongest}
use Rattle.lrlex_table.specs.Reach.{IsText}
use Rattle.lrlex_table.specs.Never.{NeverWins, NoneOfWins, NeverWinsIn, WinsAt, IsStruck, AreStruck, WinsNowhere}
use Rattle.lrlex_table.specs.declared.table.Table.{Table}
use Rattle.lrlex_table.specs.declared.merged_tables.Part.{Part}
use Rattle.lrlex_table.specs.declared.tables.Tables.{Tables}
use Rattle.lrlex_table.specs.Tables.{AreRising, IsPartOf}
use Rattle.lrlex_table.proofs.WalkLemmas.{Stands, stands_start, stands_marked, stands_unmarked, stands_dead}
use Rattle.lrlex_table.proofs.PartLemmas.{rising_within, rising_lt}
use Rattle.lrlex_table.proofs.WinnerLemmas.{length_of}
use Rattle.lrlex_table.proofs.LongestLemmas.{none_in_row, longest_in_row}

-- ---- each text's longest match ends in a row

-- what is known at position j of a walk, whose last match ends in a row that isn't the first
abbrev StandsAt : List ℕ → List (Option ℕ) → ℕ → List ℕ → ℕ → Type 0
StandsAt next wins start hay j = (r : ℕ) × (n : ℕ) × (last : ℕ) × (last ≢ start) × Stands next wins start hay j r n last

module _ (next : List ℕ) (wins : List (Option ℕ)) (start : ℕ) (hay : List ℕ) (bare : slice_index_or wins 0 None ≡ None) (living : start ≢ 0)
    (fresh : (r b : ℕ) → next_of next r (Some b) ≢ start) where
  stands_next : (j r n last to : ℕ) (o : Option ℕ) → slice_index_or wins to None ≡ o → to ≡ next_of next r (slice_get hay j) → j < length hay → last ≢ start →
      Stands next wins start hay j r n last → StandsAt next wins start hay (j + 1)
  stands_next j r n last to None won goes within apart s = (to, n, last, apart, stands_unmarked next wins start hay j r n last to s (omega arith) goes won)
  stands_next j r n last to (Some k) won goes within apart s = (
    to,
    j + 1,
    to,
    λ e. fresh r (get_or hay j 0) (ap (next_of next r) (sym (slice_get-get_or hay j 0 within)) ∙ sym goes ∙ e),
    stands_marked next wins start hay j r n last to s (omega arith) goes k won,
  )

  stands_at : (j : ℕ) → j ≤ length hay → StandsAt next wins start hay j
  stands_at zero le = (start, 0, 0, λ e. living (sym e), stands_start next wins start hay bare)
  stands_at (suc j) le =
      let old = stands_at j (omega arith) in
      let one : j + 1 ≡ suc j = omega arith in
      subst (StandsAt next wins start hay) one
      (stands_next j old.0 old.1 old.2 (next_of next old.0 (slice_get hay j)) (slice_index_or wins (next_of next old.0 (slice_get hay j)) None) refl refl (omega arith) old.3 old.4)

  pub ends_somewhere : (n : ℕ) × (row : ℕ) × (row ≢ start) × EndsInRow next wins start hay (length hay + 1) n row
  ends_somewhere =
      let at = stands_at (length hay) (omega arith) in
      let goes : 0 ≡ next_of next at.0 (slice_get hay (length hay)) = ap (next_of next at.0) (sym (slice_get_past hay (length hay) (omega arith))) in
      (at.1, at.2, at.3, stands_dead next wins start hay (length hay) at.0 at.1 at.2 0 at.4 (omega arith) goes refl)

-- ---- a text has one winner

pub one_winner : (ps : List Re) (text : List ℕ) (k n j m : ℕ) → IsLongest ps text k n → IsLongest ps text j m → (k ≡ j) × (n ≡ m)
one_winner ps text k n j m a b =
    let as_long : n ≡ m = omega (arith, a.takes, b.takes, a.greatest j b.within, b.greatest k a.within) in (
      elim (cases_lt k j) [
        | inl before ↦ absurd (omega (arith, b.earliest k before, a.takes))
        | inr ge ↦ elim (cases_lt j k) [
          | inl after ↦ absurd (omega (arith, a.earliest j after, b.takes))
          | inr le ↦ omega arith
        ]
      ],
      as_long,
    )

-- ---- the winner is that of a row

module _ (next : List ℕ) (wins : List (Option ℕ)) (start : ℕ) (ps : List Re) (text : List ℕ) (k n : ℕ) (serves : Serves next wins start ps)
    (is : IsText text) (best : IsLongest ps text k n) where
  won_by : (m row : ℕ) → EndsInRow next wins start text (length text + 1) m row → (o : Option ℕ) → slice_index_or wins row None ≡ o → slice_index_or wins row None ≡ Some k
  won_by m row ends None won =
      let none = none_in_row next wins start ps text (length text + 1) m row serves ends (omega arith) is won in
      absurd (omega (arith, none k best.within, best.takes, best.some))
  won_by m row ends (Some j) won =
      let other = longest_in_row next wins start ps text (length text + 1) m row serves ends (omega arith) is j won in
      won ∙ ap Some (one_winner ps text j m k n other best).0

  pub winner_at_row : slice_index_or wins 0 None ≡ None → start ≢ 0 → (row : ℕ) × (row ≢ start) × (slice_index_or wins row None ≡ Some k)
  winner_at_row bare living =
      let ends = ends_somewhere next wins start text bare living (serves.table text is.bytes).fresh in
      (ends.1, ends.2, won_by ends.0 ends.1 ends.3 (slice_index_or wins ends.1 None) refl)

pub never_wins : (ps : List Re) (t : Table) (k : ℕ) → IsTableOf ps t → ((row : ℕ) → WinsAt t row k → ⊥) → NeverWins ps k
never_wins ps t k serves nowhere = record {
  never = λ text n is best.
      let at = winner_at_row (next_rows t) t.wins.items t.start ps text k n serves is best t.sound.4 t.sound.5 in
      nowhere at.0 (at.1, at.2);
}

-- ---- within the lists

pub row_within : (wins : List (Option ℕ)) (row k : ℕ) → slice_index_or wins row None ≡ Some k → row < length wins
row_within wins row k won = elim (cases_lt row (length wins)) [
  | inl lt ↦ lt
  | inr ge ↦ absurd (none-some _ (sym (get_or_past wins row None ge) ∙ won))
]

pub place_within : (may : List Bool) (k : ℕ) → slice_index_or may k true ≡ false → k < length may
place_within may k bare = elim (cases_lt k (length may)) [
  | inl lt ↦ lt
  | inr ge ↦ absurd (true≢false (sym (get_or_past may k true ge) ∙ bare))
]

-- ---- some of the patterns

-- what wins among all wins among some
longest_of_some : (ps : List Re) (patterns text : List ℕ) (i n : ℕ) → AreRising 0 (length ps) patterns → i < length patterns → IsLongest ps text (get_or patterns i 0) n →
    IsLongest (map (λ k. pattern_at ps k) patterns) text i n
longest_of_some ps patterns text i n rises lt best =
    let len = length-map patterns (λ k. pattern_at ps k) in
    record {
      some = best.some;
      within = omega (arith, len);
      takes = length_of ps patterns text i lt ∙ best.takes;
      greatest = λ j here.
          let within : j < length patterns = omega (arith, len) in
          omega (arith, length_of ps patterns text j within, best.greatest (get_or patterns j 0) (rising_within 0 (length ps) patterns j rises within).1);
      earliest = λ j before.
          let within : j < length patterns = omega arith in
          omega (arith, length_of ps patterns text j within, best.earliest (get_or patterns j 0) (rising_lt 0 (length ps) patterns j i rises before lt));
      cuts = best.cuts;
    }

-- what never wins among some never wins among all
pub part_never_wins : (ps : List Re) (p : Part) (i : ℕ) → IsPartOf ps 0 (length ps) p → i < length p.patterns.items →
    NeverWins (map (λ k. pattern_at ps k) p.patterns.items) i → NeverWins ps (get_or p.patterns.items i 0)
part_never_wins ps p i part lt never = record {
  never = λ text n is best. never.never text n is (longest_of_some ps p.patterns.items text i n part.rises lt best);
}

-- ---- patterns that are struck out

-- of the part's patterns the first n are looked at
pub record IsStriking (p : Part) (old : List Bool) (n : ℕ) (may : List Bool) : Type 0 where
  pub never : (ps : List Re) → IsPartOf ps 0 (length ps) p → NoneOfWins ps old → NoneOfWins ps may
  pub struck : (i : ℕ) → i < n → IsStruck p may i
  pub kept : (k : ℕ) → slice_index_or old k false ≡ false → slice_index_or may k false ≡ false
  pub len : length may ≡ length old

module _ (p : Part) (old : List Bool) (n : ℕ) (may : List Bool) (s : IsStriking p old n may) where
  -- the next wins at a row
  pub striking_past : (row : ℕ) × WinsAt p.table row n → IsStriking p old (n + 1) may
  striking_past at = record {
    never = s.never;
    struck = λ i below nowhere. elim (cases_lt i n) [
      | inl low ↦ s.struck i low nowhere
      | inr ge ↦ let same : n ≡ i = omega arith in absurd (nowhere at.0 (at.1.0, at.1.1 ∙ ap Some same))
    ];
    kept = s.kept;
    len = s.len;
  }

  -- or it is struck out
  pub striking_out : (new : List Bool) (rule : ℕ) → rule ≡ get_or p.patterns.items n 0 → n < length p.patterns.items →
      ((ps : List Re) → IsPartOf ps 0 (length ps) p → NeverWins (map (λ k. pattern_at ps k) p.patterns.items) n) →
      ((ps : List Re) → NeverWins ps rule → NoneOfWins ps may → NoneOfWins ps new) → slice_index_or new rule false ≡ false →
      ((k : ℕ) → slice_index_or may k false ≡ false → slice_index_or new k false ≡ false) → length new ≡ length may → IsStriking p old (n + 1) new
  striking_out new rule at lt none strikes out keeps len = record {
    never = λ ps is before. strikes ps (subst (NeverWins ps) (sym at) (part_never_wins ps p n is lt (none ps is))) (s.never ps is before);
    struck = λ i below nowhere. elim (cases_lt i n) [
      | inl low ↦ keeps (get_or p.patterns.items i 0) (s.struck i low nowhere)
      | inr ge ↦
          let same : n ≡ i = omega arith in
          subst (λ j. slice_index_or new (get_or p.patterns.items j 0) false ≡ false) same (ap (λ q. slice_index_or new q false) (sym at) ∙ out)
    ];
    kept = λ k none. keeps k (s.kept k none);
    len = len ∙ s.len;
  }

-- ---- the parts

-- one more part
pub struck_more : (parts : List Part) (old new : List Bool) (n : ℕ) (p : Part) → AreStruck parts old n → slice_get parts n ≡ Some p →
    ((k : ℕ) → slice_index_or old k false ≡ false → slice_index_or new k false ≡ false) →
    ((i : ℕ) → i < length p.patterns.items → IsStruck p new i) → AreStruck parts new (n + 1)
struck_more parts old new n p before is kept struck q i other below at lt nowhere = elim (cases_lt q n) [
  | inl low ↦ kept (get_or other.patterns.items i 0) (before q i other low at lt nowhere)
  | inr ge ↦
      let here : n ≡ q = omega arith in
      let same : p ≡ other = same_Some _ _ (sym is ∙ ap (slice_get parts) here ∙ at) in
      subst (λ (x : Part). i < length x.patterns.items → IsStruck x new i) same (struck i) lt nowhere
]

-- ---- several lists

false_by : (b : Bool) → (b ≡ true → ⊥) → b ≡ false
false_by true other = absurd (other refl)
false_by false other = refl

-- one more list
module _ (pattern : ℕ → Re) (lists : List (List ℕ)) (n : ℕ) (old new here : List Bool)
    (before : (r : ℕ) → slice_index_or old r true ≡ false → NeverWinsIn pattern lists n r)
    (never : NoneOfWins (map pattern (slice_index_or lists n [])) here)
    (noted : (k : ℕ) → k < length (slice_index_or lists n []) → slice_index_or here k true ≡ true →
    slice_index_or new (slice_index_or (slice_index_or lists n []) k 0) true ≡ true)
    (kept : (r : ℕ) → slice_index_or old r true ≡ true → slice_index_or new r true ≡ true) where
  never_here : (r k : ℕ) → slice_index_or new r true ≡ false → k < length (slice_index_or lists n []) → slice_index_or (slice_index_or lists n []) k 0 ≡ r →
      NeverWins (map pattern (slice_index_or lists n [])) k
  never_here r k bare lt at =
      never k (false_by (slice_index_or here k true) (λ yes. true≢false (sym (noted k lt yes) ∙ ap (λ q. slice_index_or new q true) at ∙ bare)))

  pub never_more : (r : ℕ) → slice_index_or new r true ≡ false → NeverWinsIn pattern lists (n + 1) r
  never_more r bare j k below lt at = elim (cases_lt j n) [
    | inl low ↦ before r (false_by (slice_index_or old r true) (λ yes. true≢false (sym (kept r yes) ∙ bare))) j k low lt at
    | inr ge ↦
        let same : n ≡ j = omega arith in
        subst (λ i. k < length (slice_index_or lists i []) → slice_index_or (slice_index_or lists i []) k 0 ≡ r → NeverWins (map pattern (slice_index_or lists i [])) k) same
        (never_here r k bare) lt at
  ]

get_within : {X : Type 0} (xs : List X) (q : ℕ) (x : X) → slice_get xs q ≡ Some x → q < length xs
get_within xs q x is = elim (cases_lt q (length xs)) [
  | inl lt ↦ lt
  | inr ge ↦ absurd (none-some _ (sym (slice_get_past xs q ge) ∙ is))
]

-- what wins at no row is struck out
pub struck_here : (t : Tables) (here : List Bool) (k : ℕ) → AreStruck t.parts.items here (length t.parts.items) → k < length here → WinsNowhere t k →
    slice_index_or here k true ≡ false
struck_here t here k struck lt at =
    get_or_default here k true false lt ∙ ap (λ i. slice_index_or here i false) (sym at.5)
    ∙ struck at.0 at.1 at.2 (get_within t.parts.items at.0 at.2 at.3) at.3 at.4 at.6
