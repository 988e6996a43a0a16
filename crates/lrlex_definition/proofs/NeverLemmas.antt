-- A rule that never wins among the patterns of any list never wins in any state.
use Rattle.std.proofs.Common.{◌≡◌, zero, suc, ℕ, ◌<◌, ◌≤◌, ◌⊎◌, ◌==◌, List, length, map, get_or, Vec, Global, Some, slice_get, unwrap_or, refl, sym, ap, ◌∙◌, subst, inl, inr, arith}
use Rattle.std.proofs.Props.{props}
use Rattle.std.proofs.Math.Logic.{∥∥₁_elim}
use Rattle.std.specs.List.{position}
use Rattle.std.proofs.lemmas.Bool.{cases_lt}
use Rattle.std.proofs.lemmas.List.{length-map}
use Rattle.std.proofs.lemmas.Option.{slice_get-get_or}
use Rattle.regex.specs.Patterns.{Re}
use Rattle.lrlex_rules.specs.Definition.{Definition}
use Rattle.lrlex_rules.specs.RuleParts.{as_rule, as_state}
use Rattle.lrlex_rules.specs.declared.states.StartState as start
use Rattle.lrlex_matching.specs.Matching.{match_length}
use Rattle.lrlex_matching.proofs.ForCallers.{length_cuts, length_within}
use Rattle.lrlex_table.specs.Table.{pattern_at, IsLongest, NoneMatches}
use Rattle.lrlex_table.specs.Reach.{IsText}
use Rattle.lrlex_table.specs.Never.{NeverWins, AreTablesOn, NeverWinsIn}
use Rattle.lrlex_rules.specs.Active.{active_places}
use Rattle.lrlex_definition.specs.Never.{NeverWinsAnywhere}
use Rattle.lrlex_rules.specs.RuleLists.{list_in}
use Rattle.lrlex_definition.specs.StateTables.{pattern_in, patterns_on}
use Rattle.lrlex_rules.specs.Tiling.{Wins}
use Rattle.lrlex_definition.specs.RuleTable.{definition_by}
use Rattle.lrlex_definition.specs.declared.rule_table.RuleTable.{RuleTable}
use Rattle.lrlex_rules.proofs.PlaceLemmas.{active_places-by}
use Rattle.lrlex_definition.proofs.TableLemmas.{longest_wins, none_stuck}
use Rattle.lrlex_definition.proofs.ServedLemmas.{active_at, patterns_by, first_place}
use Rattle.lrlex_rules.proofs.TilingLemmas.{stuck_or_wins, one_rule}
use Rattle.lrlex_rules.proofs.ViewLemmas.{position_within, list_any-map}

-- ---- of some patterns one is the longest, unless none matches

-- of the first i patterns none matches more than n bytes, and where that is not 0, k is the first that matches n
record BestBelow (ps : List Re) (text : List ℕ) (i k n : ℕ) : Type 0 where
  most : (j : ℕ) → j < i → match_length (pattern_at ps j) text ≤ n
  is : 0 < n → (k < i) × (match_length (pattern_at ps k) text ≡ n)
  first : 0 < n → (j : ℕ) → j < k → match_length (pattern_at ps j) text < n

best_below : (ps : List Re) (text : List ℕ) (i : ℕ) → (k : ℕ) × (n : ℕ) × BestBelow ps text i k n
best_below ps text zero = (
  0,
  0,
  record {
    most = λ j lt. absurd (omega arith);
    is = λ some. absurd (omega arith);
    first = λ some. absurd (omega arith);
  },
)
best_below ps text (suc i) =
    let b = best_below ps text i in
    let m = match_length (pattern_at ps i) text in
    elim (cases_lt b.1 m) [
      | inl more ↦ (
        i,
        m,
        record {
          most = λ j lt. elim (cases_lt j i) [
            | inl low ↦ omega (arith, b.2.most j low)
            | inr ge ↦ let same : j ≡ i = omega arith in omega (arith, ap (λ q. match_length (pattern_at ps q) text) same)
          ];
          is = λ some. (omega arith, refl);
          first = λ some j lt. omega (arith, b.2.most j lt);
        },
      )
      | inr less ↦ (
        b.0,
        b.1,
        record {
          most = λ j lt. elim (cases_lt j i) [
            | inl low ↦ b.2.most j low
            | inr ge ↦ let same : j ≡ i = omega arith in omega (arith, ap (λ q. match_length (pattern_at ps q) text) same)
          ];
          is = λ some. (omega (arith, (b.2.is some).0), (b.2.is some).1);
          first = b.2.first;
        },
      )
    ]

longest_or_none : (ps : List Re) (text : List ℕ) → NoneMatches ps text ⊎ ((k : ℕ) × (n : ℕ) × IsLongest ps text k n)
longest_or_none ps text =
    let b = best_below ps text (length ps) in
    elim (cases_lt 0 b.1) [
      | inl some ↦
          let takes = (b.2.is some).1 in
          inr (
            b.0,
            b.1,
            record {
              some = some;
              within = (b.2.is some).0;
              takes = takes;
              greatest = b.2.most;
              earliest = b.2.first some;
              cuts = length_cuts (pattern_at ps b.0) text b.1 takes some (omega (arith, takes, length_within (pattern_at ps b.0) text));
            },
          )
      | inr none ↦ inl (λ j lt. omega (arith, b.2.most j lt))
    ]

-- ---- in a state

never_in_state : (d : Definition) (q : ℕ) (places : List ℕ) → places ≡ active_places d.states d.rules q → (r : ℕ) →
    ((k : ℕ) → k < length places → get_or places k 0 ≡ r → NeverWins (patterns_on d.rules places) k) →
    (text : List ℕ) (n : ℕ) → IsText text → Wins d q text r n → ⊥
never_in_state d q places are r never text n is wins = elim (longest_or_none (patterns_on d.rules places) text) [
  | inl none ↦ absurd (stuck_or_wins d q text r n (none_stuck d q text places are none) wins)
  | inr some ↦
      let within : some.0 < length places = omega (arith, length-map places (pattern_in d.rules), some.2.within) in
      (never some.0 within (one_rule d q text (get_or places some.0 0) some.1 r n (longest_wins d q text places are some.0 some.1 some.2) wins)).never text some.1 is some.2
]

-- ---- in a definition

nothing_prop : IsProp ⊥
nothing_prop = Prim.hlevel props

pub never_anywhere : {S : Type 0} (number : S → ℕ) (def : RuleTable S) (r : ℕ) →
    ((pattern : ℕ → Re) → AreTablesOn pattern (map (λ v. v.items) def.lists.items) def.tables.items → NeverWinsIn pattern (map (λ v. v.items) def.lists.items) (length def.lists.items) r) →
    NeverWinsAnywhere (definition_by number def) r
never_anywhere number def r never q state text n is wins =
    let states = def.start_states.items in
    let rules = def.rules.items in
    let lists = map (λ (v : Vec ℕ Global). v.items) def.lists.items in
    let test = λ (s : start.StartState). (as_state s).id == q in
    let i : ℕ = unwrap_or (position test states) 0 in
    let found : Some i ≡ position test states = first_place test states (position test states) i (sym (list_any-map as_state (λ s. s.id == q) states) ∙ state) refl refl in
    let within = position_within test states i found in
    let has : i < length def.list_at.items =
    omega (arith, ap length def.listed, length-map def.list_at.items (list_in lists), length-map states (λ s. active_places (map as_state states) (map (as_rule (λ x. 0)) rules) (as_state s).id)) in
    let j = get_or def.list_at.items i 0 in
    let at : slice_get def.list_at.items i ≡ Some j = slice_get-get_or def.list_at.items i 0 has in
    let are : list_in lists j ≡ active_places (map as_state states) (map (as_rule number) rules) q
    = active_at lists def.list_at.items states rules i j q def.listed found at ∙ active_places-by number (map as_state states) rules q in
    ∥∥₁_elim def.served nothing_prop (λ s.
    never_in_state (definition_by number def) q (list_in lists j) are r
    (λ k lt here.
    subst (λ ps. NeverWins ps k) (patterns_by (λ x. 0) number rules (list_in lists j))
    (never (pattern_in (map (as_rule (λ x. 0)) rules)) s j k (def.within i 0 has) lt here))
    text n is wins)
