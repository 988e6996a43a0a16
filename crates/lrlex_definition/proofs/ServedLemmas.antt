-- Which tables a list of rules has, and which a start state.
use Rattle.std.proofs.Common.{◌≡◌, ℕ, zero, suc, ◌+◌, ◌-◌, ◌<◌, Bool, true, List, [], ◌∷◌, ◌++◌, length, map, take, drop, get_or, set, Option, None, Some, IfSome, option_map, unwrap_or, slice_get, ◌==◌, refl, sym, ap, ap₂, ◌∙◌, subst, inl, inr, arith, length-append, option_and_then}
use mathlib.Core.Logic.{∥∥₁_map}
use Rattle.std.specs.List.{list_any, position}
use Rattle.std.proofs.lemmas.Bool.{cases_lt, cases_eq, eqb-true}
use Rattle.std.proofs.lemmas.Option.{slice_get-map, slice_get-get_or, slice_get_within, get_or_from_slice_get}
use Rattle.std.proofs.lemmas.List.{length-set, length-take, length-drop, length-append, length_push, get_or-take, get_or-drop, get_or-append_right, get_or_append_left, get_or_push, get_or-set_same, get_or-set_other}
use Rattle.regex.specs.Patterns.{Re, SameCaptures}
use Rattle.lrlex_rules.specs.Definition.{Rule}
use Rattle.lrlex_rules.specs.Patterns.{pattern_of}
use Rattle.lrlex_rules.specs.RuleParts.{RuleParts, as_rule, as_state}
use Rattle.lrlex_rules.specs.declared.states.StartState as start
use Rattle.lrlex_table.specs.Table.{next_rows, pattern_at, IsTableOf}
use Rattle.lrlex_table.specs.Tables.{AreCached, AreTablesOf}
use Rattle.lrlex_table.specs.declared.cached_table.CachedTable.{CachedTable}
use Rattle.lrlex_table.specs.declared.table.Table.{Table}
use Rattle.lrlex_table.specs.declared.tables.Tables.{Tables}
use Rattle.lrlex_table.proofs.ForCallers.{serves_alike}
use Rattle.lrlex_rules.specs.RuleLists.{list_in}
use Rattle.lrlex_definition.specs.StateTables.{pattern_in, patterns_on, AreServed}
use Rattle.lrlex_rules.specs.Active.{active_places, no_rule}
use Rattle.lrlex_rules.specs.Ids.{with_own_id}
use Rattle.lrlex_rules.proofs.ViewLemmas.{position_within, item_at, position_some, position_none}
use Rattle.lrlex_rules.proofs.PlaceLemmas.{active_places-by}
use Rattle.lrlex_definition.specs.RuleTable.{tables_in, untabled_count}
use Rattle.lrlex_definition.specs.declared.rule_table.RuleTable.{RuleTable}

-- ---- the tables of a definition

-- which patterns stand at places does not rest on the rules' ids
pattern_by : {S : Type 0} (f g : S → ℕ) (o : Option (RuleParts S)) →
    pattern_of (unwrap_or (option_map (as_rule f) o) no_rule) ≡ pattern_of (unwrap_or (option_map (as_rule g) o) no_rule)
unfolding pattern_of
pattern_by f g None = refl
pattern_by f g (Some r) = refl

pub patterns_by : {S : Type 0} (f g : S → ℕ) (rules : List (RuleParts S)) (places : List ℕ) →
    patterns_on (map (as_rule f) rules) places ≡ patterns_on (map (as_rule g) rules) places
patterns_by f g rules [] = refl
patterns_by f g rules (i ∷ places) =
    ap₂ ◌∷◌
    (ap (λ o. pattern_of (unwrap_or o no_rule)) (slice_get-map (as_rule f) rules i) ∙ pattern_by f g (slice_get rules i)
    ∙ ap (λ o. pattern_of (unwrap_or o no_rule)) (sym (slice_get-map (as_rule g) rules i)))
    (patterns_by f g rules places)

pub pattern_here : {S : Type 0} (f g : S → ℕ) (r : RuleParts S) → pattern_of (as_rule f r) ≡ pattern_of (as_rule g r)
unfolding pattern_of
pattern_here f g r = refl

-- the list that the program keeps for the first state with the id
pub active_at : {S : Type 0} (lists : List (List ℕ)) (at : List ℕ) (states : List start.StartState) (rules : List (RuleParts S)) (i j id : ℕ) →
    map (list_in lists) at ≡ map (λ s. active_places (map as_state states) (map (as_rule (λ _. 0)) rules) (as_state s).id) states →
    Some i ≡ position (λ s. (as_state s).id == id) states → slice_get at i ≡ Some j →
    list_in lists j ≡ active_places (map as_state states) (map (as_rule (λ _. 0)) rules) id
active_at lists at states rules i j id listed found is =
    let f = λ (s : start.StartState). active_places (map as_state states) (map (as_rule (λ _. 0)) rules) (as_state s).id in
    let within = position_within (λ s. (as_state s).id == id) states i found in
    let other = item_at states i within in
    let first = position_some (λ s. (as_state s).id == id) states i found other in
    sym (get_or_from_slice_get (map (list_in lists) at) i (list_in lists j) [] (slice_get-map (list_in lists) at i ∙ ap (option_map (list_in lists)) is))
    ∙ ap (λ xs. get_or xs i []) listed
    ∙ get_or_from_slice_get (map f states) i (f (get_or states i other)) [] (slice_get-map f states i ∙ ap (option_map f) (slice_get-get_or states i other within))
    ∙ ap (active_places (map as_state states) (map (as_rule (λ _. 0)) rules)) (eqb-true _ _ first.1)

-- ---- which state has which tables

alike_one : (p r : Re) → SameCaptures p r → (k : ℕ) → k < length (p ∷ []) → SameCaptures (pattern_at (p ∷ []) k) (pattern_at (r ∷ []) k)
alike_one p r same zero lt = same
alike_one p r same (suc k) lt = absurd (omega arith)

-- the table of a rule's compiled pattern is that of its pattern
pub alone_serves : {S : Type 0} (number : S → ℕ) (o : Option Table) (p : Re) (r : RuleParts S) → SameCaptures p (pattern_of (as_rule number r)) →
    IfSome o (IsTableOf (p ∷ [])) → IfSome o (IsTableOf (pattern_of (as_rule (λ _. 0) r) ∷ []))
alone_serves number None p r same is = tt
alone_serves number (Some t) p r same is =
    let own = pattern_of (as_rule (λ _. 0) r) in
    serves_alike (next_rows t) t.wins.items t.start (p ∷ []) (own ∷ []) refl (alike_one p own (subst (SameCaptures p) (pattern_here number (λ _. 0) r) same)) is

pub pattern_in_at : {S : Type 0} (rules : List (RuleParts S)) (i : ℕ) (r : RuleParts S) → slice_get rules i ≡ Some r →
    pattern_in (map (as_rule (λ _. 0)) rules) i ≡ pattern_of (as_rule (λ _. 0) r)
pattern_in_at rules i r at = ap (λ u. pattern_of (unwrap_or u no_rule)) (slice_get-map (as_rule (λ _. 0)) rules i ∙ ap (option_map (as_rule (λ _. 0))) at)

-- what came of trying one
pub single_set : (pattern : ℕ → Re) (singles : List CachedTable) (i : ℕ) (s : CachedTable) → AreCached pattern singles → i < length singles →
    IfSome s.table (IsTableOf (pattern i ∷ [])) → AreCached pattern (set singles i s)
single_set pattern singles i s old lt new k other is =
    let within : k < length (set singles i s) = slice_get_within (set singles i s) k other is in
    let here : get_or (set singles i s) k s ≡ other = get_or_from_slice_get (set singles i s) k other s is in
    elim (cases_eq k i) [
      | inl e ↦
          let now : s ≡ other = sym (get_or-set_same singles i s s lt) ∙ sym (ap (λ j. get_or (set singles i s) j s) e) ∙ here in
          subst (λ (u : CachedTable). IfSome u.table (IsTableOf (pattern k ∷ []))) now (subst (λ j. IfSome s.table (IsTableOf (pattern j ∷ []))) (sym e) new)
      | inr ne ↦
          old k other (slice_get-get_or singles k s (omega (arith, length-set singles i s)) ∙ ap Some (sym (get_or-set_other singles i k s s ne) ∙ here))
    ]

-- what a call leaves of the rules that it was lent
pub single_back : (pattern : ℕ → Re) (new old : List CachedTable) (n : ℕ) → AreCached pattern new → AreCached pattern old → AreCached pattern (take n (new ++ drop (length new) old))
single_back pattern new old n made kept k s is =
    let rest = drop (length new) old in
    let within : k < length (take n (new ++ rest)) = slice_get_within (take n (new ++ rest)) k s is in
    let low : k < n = omega (arith, length-take n (new ++ rest)) in
    let here : get_or (new ++ rest) k s ≡ s = sym (get_or-take n (new ++ rest) k s low) ∙ get_or_from_slice_get (take n (new ++ rest)) k s s is in
    elim (cases_lt k (length new)) [
      | inl lt ↦ made k s (slice_get-get_or new k s lt ∙ ap Some (sym (get_or_append_left new rest s k lt) ∙ here))
      | inr ge ↦
          let among : k < length old = omega (arith, length-take n (new ++ rest), length-append new rest, length-drop (length new) old) in
          let place : length new + (k - length new) ≡ k = omega arith in
          let there : get_or (new ++ rest) k s ≡ get_or old k s =
          get_or-append_right new rest (length new) k s refl ge ∙ get_or-drop (length new) old (k - length new) s ∙ ap (λ j. get_or old j s) place in
          kept k s (slice_get-get_or old k s among ∙ ap Some (sym there ∙ here))
    ]

-- the tables of one more list
pub served_more : {S : Type 0} (rules : List (RuleParts S)) (lists : List (List ℕ)) (tables : List Tables) (new : Tables) → AreServed rules lists tables →
    AreTablesOf (patterns_on (map (as_rule (λ _. 0)) rules) (list_in lists (length tables))) new → AreServed rules lists (tables ++ new ∷ [])
served_more rules lists tables new s own j t is = elim (cases_lt j (length tables)) [
  | inl low ↦ s j t (slice_get-get_or tables j new low ∙ ap Some (sym (get_or_append_left tables (new ∷ []) new j low)) ∙ sym (slice_get-get_or (tables ++ new ∷ []) j new (omega (arith, length_push tables new))) ∙ is)
  | inr high ↦
      let within : j < length (tables ++ new ∷ []) = slice_get_within (tables ++ new ∷ []) j t is in
      let last : length tables ≡ j = omega (arith, length_push tables new) in
      let now : new ≡ t = sym (get_or_push tables new new j last) ∙ get_or_from_slice_get (tables ++ new ∷ []) j t new is in
      subst (λ u. AreTablesOf (patterns_on (map (as_rule (λ _. 0)) rules) (list_in lists j)) u) now
      (subst (λ n. AreTablesOf (patterns_on (map (as_rule (λ _. 0)) rules) (list_in lists n)) new) last own)
]

-- where one passes, the first that does has a place
pub first_place : {A : Type 0} (p : A → Bool) (xs : List A) (o : Option ℕ) (i : ℕ) → list_any p xs ≡ true → o ≡ position p xs → i ≡ unwrap_or o 0 → Some i ≡ position p xs
first_place p xs None i some none e = absurd (position_none p xs none some)
first_place p xs (Some k) i some at e = ap Some e ∙ at

-- the tables of a state are those of its active rules
pub tables_at_state : {S : Type 0} (number : S → ℕ) (lists : List (List ℕ)) (tables : List Tables) (at : List ℕ) (states : List start.StartState) (rules : List (RuleParts S)) (i j id : ℕ) (t : Tables) →
    map (list_in lists) at ≡ map (λ s. active_places (map as_state states) (map (as_rule (λ _. 0)) rules) (as_state s).id) states →
    ∥ AreServed rules lists tables ∥₁ → Some i ≡ position (λ s. (as_state s).id == id) states → slice_get at i ≡ Some j → slice_get tables j ≡ Some t →
    ∥ AreTablesOf (patterns_on (map (as_rule number) rules) (active_places (map as_state states) (map (as_rule number) rules) id)) t ∥₁
tables_at_state number lists tables at states rules i j id t listed served found is has =
    let places = active_places (map as_state states) (map (as_rule (λ _. 0)) rules) id in
    ∥∥₁_map served (λ s.
    subst (λ ps. AreTablesOf ps t)
    (ap (patterns_on (map (as_rule (λ _. 0)) rules)) (active_at lists at states rules i j id listed found is) ∙ patterns_by (λ _. 0) number rules places
    ∙ ap (patterns_on (map (as_rule number) rules)) (active_places-by number (map as_state states) rules id))
    (s j t has))

-- ---- other ids, the same tables

own_pattern : (ids : List ℕ → Option ℕ) (o : Option Rule) → pattern_of (unwrap_or (option_map (with_own_id ids) o) no_rule) ≡ pattern_of (unwrap_or o no_rule)
unfolding pattern_of
own_pattern ids None = refl
own_pattern ids (Some r) = refl

patterns_owned : (ids : List ℕ → Option ℕ) (rules : List Rule) (places : List ℕ) → patterns_on (map (with_own_id ids) rules) places ≡ patterns_on rules places
patterns_owned ids rules [] = refl
patterns_owned ids rules (i ∷ places) =
    ap₂ ◌∷◌ (ap (λ o. pattern_of (unwrap_or o no_rule)) (slice_get-map (with_own_id ids) rules i) ∙ own_pattern ids (slice_get rules i)) (patterns_owned ids rules places)

pub served_with_ids : {S : Type 0} (number : S → ℕ) (ids : List ℕ → Option ℕ) (old new : List (RuleParts S)) →
    map (as_rule number) new ≡ map (with_own_id ids) (map (as_rule number) old) → (lists : List (List ℕ)) (tables : List Tables) →
    AreServed old lists tables → AreServed new lists tables
served_with_ids number ids old new e lists tables s j t has =
    let places = list_in lists j in
    subst (λ ps. AreTablesOf ps t)
    (patterns_by (λ _. 0) number old places ∙ sym (patterns_owned ids (map (as_rule number) old) places) ∙ ap (λ rs. patterns_on rs places) (sym e)
    ∙ patterns_by number (λ _. 0) new places)
    (s j t has)

-- ---- the tables of a state

-- the first state with the id has the tables that stand at its place
pub untabled_here : {S : Type 0} (def : RuleTable S) (q i j : ℕ) (t : Tables) →
    Some i ≡ position (λ s. (as_state s).id == q) def.start_states.items → slice_get def.list_at.items i ≡ Some j → slice_get def.tables.items j ≡ Some t →
    length t.asked.items ≡ untabled_count def q
unfolding untabled_count
untabled_here def q i j t found is has =
    let there : tables_in def q ≡ Some t =
    ap (λ o. option_and_then (λ k. option_and_then (slice_get def.tables.items) (slice_get def.list_at.items k)) o) (sym found)
    ∙ ap (λ o. option_and_then (slice_get def.tables.items) o) is ∙ has in
    sym (ap (λ o. unwrap_or (option_map (λ (u : Tables). length u.asked.items) o) 0) there)
