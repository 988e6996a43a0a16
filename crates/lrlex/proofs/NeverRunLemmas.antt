-- A run has no tile of a rule that never wins. A rule that is active in no state never wins. A state that no rule enters is on no
-- stack.
use Rattle.std.proofs.Common.{◌≡◌, ◌≢◌, ℕ, zero, suc, ◌+◌, ◌-◌, ◌<◌, ◌==◌, ◌||◌, Bool, true, false, List, All, [], ◌∷◌, length, drop, take, Option, Some, None, slice_get, unwrap_or, refl, sym, ◌∙◌, subst, arith, true≢false}
use Rattle.std.specs.List.{list_any}
use Rattle.std.proofs.lemmas.Bool.{cond-false, eqb-true, eq-eqb}
use Rattle.std.proofs.lemmas.List.Elements.{All-cons, All-nil, All-push, All-take}
use Rattle.std.proofs.lemmas.Option.{none-some, same_Some}
use Rattle.regex_hir.specs.Text.{is_some_and}
use Rattle.lrlex_rules.specs.declared.states.StartStateOperation.{StartStateOperation}
use Rattle.lrlex_rules.specs.declared.states.StartStateOperation.TheVariants.{ReplaceStack, Push, Pop}
use Rattle.lrlex_rules.specs.Definition.{Definition, Rule, StartState}
use Rattle.lrlex_rules.specs.Patterns.{pattern_of}
use Rattle.lrlex_matching.specs.Matching.{match_length}
use Rattle.lrlex_table.specs.Reach.{IsText}
use Rattle.lrlex_rules.specs.Active.{is_state, is_active, rule_at, no_rule, taken_by, taken_by_any}
use Rattle.lrlex_definition.specs.Never.{NeverWinsAnywhere, EndsByOther, HasNoTileOf, LacksState, puts, enters}
use Rattle.lrlex_definition.specs.Somewhere.{is_active_somewhere}
use Rattle.lrlex_rules.specs.Tiling.{Wins, Tile, End, Done, NoMatch, NoId, NoTarget, IsEnd, IsTiling, top, or_initial, stack_after, stack_past, boundaries}
use Rattle.lrlex.proofs.ItemLemmas.{Wins-cut}
use Rattle.lrlex.proofs.ReachLemmas.{AreStates, one_state, sound_after, top_is_state}
use Rattle.lrlex.proofs.ResumeLemmas.{text_from}

-- ---- no tile of a run

module _ (d : Definition) (k : ℕ) (never : NeverWinsAnywhere d k) (initial : is_state d 0 ≡ true) where
  other_rule : (text stack : List ℕ) (t : Tile) → IsText text → AreStates d stack → 0 < length stack → Wins d (top stack) text t.rule t.len → t.rule ≢ k
  other_rule text stack t is states some wins same =
      never (top stack) (top_is_state d stack states some) text t.len is (subst (λ j. Wins d (top stack) text j t.len) same wins)

  no_end_of : (text stack : List ℕ) (e : End) → IsText text → AreStates d stack → 0 < length stack → IsEnd d text stack e → EndsByOther k e
  no_end_of text stack Done is states some end = tt
  no_end_of text stack (NoMatch q) is states some end = tt
  no_end_of text stack NoId is states some end = tt
  no_end_of text stack (NoTarget t) is states some end = other_rule text stack t is states some end.0

  no_tile_from : (text stack : List ℕ) (ts : List Tile) (e : End) → IsText text → AreStates d stack → 0 < length stack → IsTiling d text stack ts e → HasNoTileOf k ts e
  no_tile_from text stack [] e is states some tiling = (All-nil (λ (t : Tile). t.rule ≢ k), no_end_of text stack e is states some tiling)
  no_tile_from text stack (t ∷ ts) e is states some tiling =
      let taken = tiling.0 in
      let sound = sound_after d stack (rule_at d t.rule).target initial states some taken.has_target in
      let rest = no_tile_from (drop t.len text) (stack_past d stack t) ts e (text_from text t.len is (Wins-cut d (top stack) text t.rule t.len taken.wins)) sound.states sound.some tiling.1 in
      (All-cons (λ (t : Tile). t.rule ≢ k) t ts (other_rule text stack t is states some taken.wins) rest.0, rest.1)

  pub no_tile_of : (text : List ℕ) → IsText text → (ts : List Tile) (e : End) → IsTiling d text (0 ∷ []) ts e → HasNoTileOf k ts e
  no_tile_of text is ts e tiling = no_tile_from text (0 ∷ []) ts e is (one_state d 0 initial) (omega arith) tiling

or_false : (a b : Bool) → (a || b) ≡ false → (a ≡ false) × (b ≡ false)
or_false true b e = absurd (true≢false e)
or_false false b e = (refl, e)

-- a test that none passes
not_any : {A : Type 0} (p : A → Bool) (xs : List A) (k : ℕ) (x : A) → list_any p xs ≡ false → slice_get xs k ≡ Some x → p x ≡ false
not_any p [] k x none at = absurd (none-some x at)
not_any p (y ∷ ys) zero x none at = subst (λ z. p z ≡ false) (same_Some _ _ at) (or_false (p y) (list_any p ys) none).0
not_any p (y ∷ ys) (suc k) x none at = not_any p ys k x (or_false (p y) (list_any p ys) none).1 at

-- ---- a rule that is active in no state

taken_none : (d : Definition) (q : ℕ) (text : List ℕ) (o : Option Rule) → is_active d.states q (unwrap_or o no_rule) ≡ false → taken_by_any d q text o ≡ 0
unfolding taken_by
taken_none d q text None inactive = refl
taken_none d q text (Some r) inactive = cond-false (is_active d.states q r) (match_length (pattern_of r) text) 0 inactive

inactive_here : (f : ℕ → Bool) (q i : ℕ) (rest found : Bool) → (f i ≡ false) × (rest ≡ false) → (rest ≡ false → found ≡ true → f q ≡ false) →
    (b : Bool) → (i == q) ≡ b → (b || found) ≡ true → f q ≡ false
inactive_here f q i rest found none ih true same is = subst (λ j. f j ≡ false) (eqb-true i q same) none.0
inactive_here f q i rest found none ih false same is = ih none.1 is

inactive_at : (f : ℕ → Bool) (q : ℕ) (states : List StartState) → list_any (λ (s : StartState). f s.id) states ≡ false → list_any (λ (s : StartState). s.id == q) states ≡ true → f q ≡ false
inactive_at f q [] none is = absurd (true≢false (sym is))
inactive_at f q (s ∷ states) none is =
    inactive_here f q s.id (list_any (λ (s : StartState). f s.id) states) (list_any (λ (s : StartState). s.id == q) states)
    (or_false (f s.id) (list_any (λ (s : StartState). f s.id) states) none) (inactive_at f q states) (s.id == q) refl is

pub inactive_never : (d : Definition) (k : ℕ) → is_active_somewhere d k ≡ false → NeverWinsAnywhere d k
unfolding is_active_somewhere
inactive_never d k none q state text n is wins =
    let zero_taken = taken_none d q text (slice_get d.rules k) (inactive_at (λ q. is_active d.states q (rule_at d k)) q d.states none state) in
    omega (arith, zero_taken, wins.takes, wins.some)

-- ---- a state that no rule enters

module _ (d : Definition) (q : ℕ) (other : q ≢ 0) (none : list_any (enters q) d.rules ≡ false) where
  -- the rule at a place doesn't enter it
  not_by : (o : Option Rule) → (k : ℕ) → slice_get d.rules k ≡ o → is_some_and (unwrap_or o no_rule).target (puts q) ≡ false
  not_by None k at = refl
  not_by (Some r) k at = not_any (enters q) d.rules k r none at

  lacks_initial : (s : List ℕ) → LacksState q s → LacksState q (or_initial s)
  lacks_initial [] lacks = All-cons (λ s. s ≢ q) 0 [] (λ e. other (sym e)) (All-nil (λ s. s ≢ q))
  lacks_initial (x ∷ xs) lacks = lacks

  lacks_after : (s : List ℕ) (target : Option (ℕ × StartStateOperation)) → is_some_and target (puts q) ≡ false → LacksState q s → LacksState q (stack_after s target)
  unfolding stack_after
  lacks_after s None bare lacks = lacks
  lacks_after s (Some (x, ReplaceStack)) bare lacks = All-cons (λ s. s ≢ q) x [] (λ e. true≢false (sym (eq-eqb x q e) ∙ bare)) (All-nil (λ s. s ≢ q))
  lacks_after s (Some (x, Push)) bare lacks = All-push (λ s. s ≢ q) s x lacks (λ e. true≢false (sym (eq-eqb x q e) ∙ bare))
  lacks_after s (Some (x, Pop)) bare lacks = lacks_initial (take (length s - 1) s) (All-take (λ s. s ≢ q) (length s - 1) s lacks)

  lacks_from : (place : ℕ) (stack : List ℕ) (ts : List Tile) → LacksState q stack → All (λ (b : ℕ × List ℕ). LacksState q b.1) (boundaries d place stack ts)
  lacks_from place stack [] lacks = All-cons (λ (b : ℕ × List ℕ). LacksState q b.1) (place, stack) [] lacks (All-nil (λ (b : ℕ × List ℕ). LacksState q b.1))
  lacks_from place stack (t ∷ ts) lacks =
      All-cons (λ (b : ℕ × List ℕ). LacksState q b.1) (place, stack) (boundaries d (place + t.len) (stack_past d stack t) ts) lacks
      (lacks_from (place + t.len) (stack_past d stack t) ts (lacks_after stack (rule_at d t.rule).target (not_by (slice_get d.rules t.rule) t.rule refl) lacks))

  pub never_entered : (place : ℕ) (ts : List Tile) → All (λ (b : ℕ × List ℕ). LacksState q b.1) (boundaries d place (0 ∷ []) ts)
  never_entered place ts = lacks_from place (0 ∷ []) ts (All-cons (λ s. s ≢ q) 0 [] (λ e. other (sym e)) (All-nil (λ s. s ≢ q)))
