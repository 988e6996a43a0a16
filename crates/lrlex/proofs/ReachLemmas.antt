-- One more tile, and the end of a run.
use Rattle.std.proofs.Common.{◌≡◌, ◌≢◌, ℕ, ◌+◌, ◌-◌, ◌*◌, ◌^◌, ◌<◌, ◌≤◌, Bool, true, false, not, List, [], ◌∷◌, ◌++◌, length, map, drop, Option, Some, None, refl, sym, ap, ap₂, ◌∙◌, subst, arith, true≢false, take, All, append_assoc, length-append}
use Rattle.std.specs.List.{sum_by}
use Rattle.regex_hir.specs.Text.{is_some_and}
use Rattle.std.proofs.lemmas.List.{drop-drop, length-drop, length-take, length-map, nil_from_length, map_push, get_or_at}
use Rattle.std.proofs.lemmas.List.Elements.{All-push, All-pop, All-take, All-nil}
use Rattle.std.proofs.lemmas.List.Sums.{sum_by-append, sum_by-cons}
use Rattle.std.proofs.lemmas.Bool.{cond-true, lt-ltb}
use Rattle.std.proofs.Math.Nat.{mul-le-mul_right}
use Rattle.lrlex_rules.specs.Definition.{Definition}
use Rattle.lrlex_rules.specs.Active.{active_count, is_state, rule_at}
use Rattle.lrlex_rules.specs.Tiling.{Item, Error, top, Wins, End, IsTaken, IsEnd, IsWinner, stack_past, stack_after, or_initial, IsTiling, tile_items, end_items, items, boundaries, asked_at}
use Rattle.lrlex_boundaries.specs.Entries.{plain, AreEntries}
use Rattle.lrlex_boundaries.specs.Boundaries.{Boundary, place_and_stack, no_boundary, boundary_at, last_entries}
use Rattle.lrlex.specs.Reach.{Reached, IsLexed, IsRun, searches}
use Rattle.lrlex_rules.specs.Tiling.{Tile}
use Rattle.lrlex_rules.specs.declared.states.StartStateOperation.{StartStateOperation}
use Rattle.lrlex_rules.specs.declared.states.StartStateOperation.TheVariants.{ReplaceStack, Push, Pop}
use Rattle.lrlex.proofs.EntryLemmas.{entries-one}
use Rattle.lrlex_rules.proofs.TilingLemmas.{only_one}
use Rattle.lrlex.proofs.CountLemmas.{asked_at-le}

abbrev pub AreStates : Definition → List ℕ → Type 0
AreStates d = All (λ q. is_state d q ≡ true)

pub one_state : (d : Definition) (q : ℕ) → is_state d q ≡ true → AreStates d (q ∷ [])
one_state d q h = All-push (λ q. is_state d q ≡ true) [] q (All-nil (λ q. is_state d q ≡ true)) h

pub Reached-none : (d : Definition) (text : List ℕ) → is_state d 0 ≡ true → Reached d text 0 ((1, 0) ∷ []) [] (record { place = 0; entries = (1, 0) ∷ [] } ∷ []) 0
Reached-none d text zero_is = record {
  cut = [];
  before = [];
  goes_on = λ ts e h. h;
  gives = λ ts e. refl;
  enters = λ ts. refl;
  kept = refl;
  entries = All-push (λ (m : Boundary). AreEntries m.entries) [] (record { place = 0; entries = (1, 0) ∷ [] }) (All-nil (λ (m : Boundary). AreEntries m.entries)) (entries-one 0);
  asks = omega arith;
  few = omega arith;
  deep = omega arith;
  some = omega arith;
  initial = zero_is;
  states = one_state d 0 zero_is;
}

-- ---- what a target does to a stack of states

or_initial-states : (d : Definition) (s : List ℕ) → is_state d 0 ≡ true → AreStates d s → AreStates d (or_initial s)
or_initial-states d [] z h = one_state d 0 z
or_initial-states d (q ∷ qs) z h = h

or_initial-some : (s : List ℕ) → 0 < length (or_initial s)
or_initial-some [] = omega arith
or_initial-some (q ∷ qs) = omega arith

or_initial-le : (s : List ℕ) → length (or_initial s) ≤ length s + 1
or_initial-le [] = omega arith
or_initial-le (q ∷ qs) = omega arith

pub record IsSound (d : Definition) (old new : List ℕ) : Type 0 where
  pub states : AreStates d new
  pub some : 0 < length new
  pub deep : length new ≤ length old + 1

has_state : (d : Definition) (b : Bool) → not b ≡ false → b ≡ true
has_state d true e = refl
has_state d false e = absurd (true≢false e)

pub sound_after : (d : Definition) (s : List ℕ) (target : Option (ℕ × StartStateOperation)) → is_state d 0 ≡ true → AreStates d s → 0 < length s →
    is_some_and target (λ t. not (is_state d t.0)) ≡ false → IsSound d s (stack_after s target)
unfolding stack_after
sound_after d s None z h some t = record { states = h; some = some; deep = omega arith }
sound_after d s (Some (q, ReplaceStack)) z h some t = record { states = one_state d q (has_state d _ t); some = omega arith; deep = omega arith }
sound_after d s (Some (q, Push)) z h some t = record {
  states = All-push (λ q. is_state d q ≡ true) s q h (has_state d _ t);
  some = omega (arith, length-append s (q ∷ []));
  deep = omega (arith, length-append s (q ∷ []));
}
sound_after d s (Some (q, Pop)) z h some t = record {
  states = or_initial-states d (take (length s - 1) s) z (All-take (λ q. is_state d q ≡ true) (length s - 1) s h);
  some = or_initial-some (take (length s - 1) s);
  deep = omega (arith, or_initial-le (take (length s - 1) s), length-take (length s - 1) s);
}

pub top_is_state : (d : Definition) (s : List ℕ) → AreStates d s → 0 < length s → is_state d (top s) ≡ true
top_is_state d s h some = h (length s - 1) 0 (omega arith)

-- ---- counts

searches-le : (d : Definition) (end : ℕ) (bs : List (ℕ × List ℕ)) → sum_by (asked_at d end) bs ≤ length bs * length d.rules
searches-le d end [] = omega arith
searches-le d end (b ∷ bs) = omega (arith, sum_by-cons (asked_at d end) b bs, asked_at-le d end b, searches-le d end bs)

pub searches-few : (d : Definition) (text : List ℕ) (bounds : List Boundary) → searches d text bounds ≤ length bounds * length d.rules
searches-few d text bounds = subst (λ n. searches d text bounds ≤ n * length d.rules) (length-map bounds place_and_stack) (searches-le d (length text) (map place_and_stack bounds))

-- ---- one more tile

module _ (d : Definition) (text : List ℕ) (place : ℕ) (stack : List (ℕ × ℕ)) (found : List Item) (bounds : List Boundary) (asked : ℕ) (r : Reached d text place stack found bounds asked) where
  pub bounds_now : map place_and_stack bounds ≡ map place_and_stack r.before ++ (place, plain stack) ∷ []
  bounds_now = ap (map place_and_stack) r.kept ∙ map_push place_and_stack r.before _

  pub searches_now : (now : ℕ) → place < length text → now ≤ asked + active_count d (top (plain stack)) → now ≤ searches d text bounds
  searches_now now within few =
      let at : asked_at d (length text) (place, plain stack) ≡ active_count d (top (plain stack)) = cond-true _ (active_count d (top (plain stack))) 0 (lt-ltb place (length text) within) in
      let one = sum_by-cons (asked_at d (length text)) (place, plain stack) [] in
      let all = sum_by-append (asked_at d (length text)) (map place_and_stack r.before) ((place, plain stack) ∷ []) in
      let same : searches d text bounds ≡ sum_by (asked_at d (length text)) (map place_and_stack r.before ++ (place, plain stack) ∷ []) = ap (sum_by (asked_at d (length text))) bounds_now in
      omega (arith, r.asks, few, at, one, all, same)

  pub asked_now : asked ≤ searches d text bounds
  asked_now =
      let all = sum_by-append (asked_at d (length text)) (map place_and_stack r.before) ((place, plain stack) ∷ []) in
      let same : searches d text bounds ≡ sum_by (asked_at d (length text)) (map place_and_stack r.before ++ (place, plain stack) ∷ []) = ap (sum_by (asked_at d (length text))) bounds_now in
      omega (arith, r.asks, all, same)

  boundary_now : boundary_at bounds (length bounds - 1) ≡ record { place = place; entries = stack }
  boundary_now =
      let n : length r.before ≡ length bounds - 1 = omega (arith, ap length r.kept, length-append r.before (record { place = place; entries = stack } ∷ [])) in
      ap (boundary_at bounds) (sym n) ∙ ap (λ ms. boundary_at ms (length r.before)) r.kept ∙ get_or_at r.before (record { place = place; entries = stack }) [] no_boundary (length r.before) refl

  pub last_now : last_entries bounds ≡ stack
  last_now = ap (λ (m : Boundary). m.entries) boundary_now

  pub place_now : (boundary_at bounds (length bounds - 1)).place ≡ place
  place_now = ap (λ (m : Boundary). m.place) boundary_now

  pub entries_now : AreEntries stack
  entries_now = (All-pop (λ (m : Boundary). AreEntries m.entries) bounds r.before (Some (record { place = place; entries = stack })) r.kept r.entries).1

  pub length_now : length bounds ≡ length r.before + 1
  length_now = omega (arith, ap length r.kept, length-append r.before (record { place = place; entries = stack } ∷ []))

  pub Reached-more : (next : List (ℕ × ℕ)) (more : List Item) (after : List Boundary) (now : ℕ) (t : Tile) →
      place < length text → IsTaken d (drop place text) (plain stack) t → now ≤ asked + active_count d (top (plain stack)) →
      AreEntries next → plain next ≡ stack_past d (plain stack) t → more ≡ found ++ tile_items d place t →
      after ≡ bounds ++ record { place = place + t.len; entries = next } ∷ [] →
      Reached d text (place + t.len) next more after now
  Reached-more next more after now t within taken few entries moved given kept = record {
    cut = r.cut ++ t ∷ [];
    before = bounds;
    goes_on = λ ts e h.
        let rest = subst (λ s. IsTiling d (drop (place + t.len) text) s ts e) moved h in
        let next = r.goes_on (t ∷ ts) e (taken, subst (λ w. IsTiling d w (stack_past d (plain stack) t) ts e) (sym (drop-drop t.len place text)) rest) in
        subst (λ us. IsTiling d text (0 ∷ []) us e) (sym (append_assoc r.cut (t ∷ []) ts)) next;
    gives = λ ts e.
        ap (λ us. items d 0 us e) (append_assoc r.cut (t ∷ []) ts) ∙ r.gives (t ∷ ts) e
        ∙ sym (append_assoc found (tile_items d place t) (items d (place + t.len) ts e))
        ∙ ap (λ xs. xs ++ items d (place + t.len) ts e) (sym given);
    enters = λ ts.
        ap (boundaries d 0 (0 ∷ [])) (append_assoc r.cut (t ∷ []) ts) ∙ r.enters (t ∷ ts)
        ∙ sym (append_assoc (map place_and_stack r.before) ((place, plain stack) ∷ []) (boundaries d (place + t.len) (stack_past d (plain stack) t) ts))
        ∙ ap₂ ◌++◌ (sym bounds_now) (ap (λ s. boundaries d (place + t.len) s ts) (sym moved));
    kept = kept;
    entries = subst (All (λ (m : Boundary). AreEntries m.entries)) (sym kept) (All-push (λ (m : Boundary). AreEntries m.entries) bounds _ r.entries entries);
    asks = searches_now now within few;
    few = omega (arith, length_now, r.few, taken.wins.some);
    deep = omega (arith, length_now, r.deep, sound.deep, ap length moved);
    some = omega (arith, sound.some, ap length moved);
    initial = r.initial;
    states = subst (AreStates d) (sym moved) sound.states;
  } where
    sound : IsSound d (plain stack) (stack_past d (plain stack) t)
    sound = sound_after d (plain stack) (rule_at d t.rule).target r.initial r.states r.some taken.has_target

  -- a run that ends here
  pub ended : (all : List Item) (e : End) → IsEnd d (drop place text) (plain stack) e → all ≡ found ++ end_items d place e → IsLexed d text all bounds
  ended all e end is =
      let tiling = r.goes_on [] e end in
      record {
        cut = r.cut ++ [];
        end = e;
        tiling = tiling;
        only = only_one d text (r.cut ++ []) e tiling;
        items_are = is ∙ sym (r.gives [] e);
        boundaries_are = bounds_now ∙ sym (r.enters []);
        entries = r.entries;
      }

-- the counter has room for one more search by each rule
pub room_for : (asked count rules : ℕ) → count < 2 ^ 64 → rules < 2 ^ 63 → asked ≤ count * rules → asked + rules < 2 ^ 128
room_for asked count rules t r h =
    let most : count * rules ≤ 2 ^ 64 * rules = mul-le-mul_right rules (omega arith) in
    omega arith

-- the winner of what is left under a borrowed stack
pub wins_at : (d : Definition) (q : ℕ) (stack rest text : List ℕ) (t : Tile) → q ≡ top stack → rest ≡ text → Wins d q rest t.rule t.len → IsWinner d text stack t
wins_at d q stack rest text t on_top left wins =
    subst (λ p. Wins d p text t.rule t.len) on_top (subst (λ w. Wins d q w t.rule t.len) left wins)

pub nothing_left : (text : List ℕ) (place : ℕ) → length text ≤ place → drop place text ≡ []
nothing_left text place h = nil_from_length (drop place text) (omega (arith, length-drop place text))

pub something_left : (text : List ℕ) (place : ℕ) → place < length text → drop place text ≢ []
something_left text place h e = let none : length (drop place text) ≡ 0 = ap length e in absurd (omega (arith, length-drop place text))

pub run_of : (d : Definition) (text : List ℕ) (found : List Item) (bounds : List Boundary) → is_state d 0 ≡ true → IsLexed d text found bounds → IsRun d text found bounds
run_of d text found bounds z h = record { lexed = λ e. h; stateless = λ e. absurd (true≢false (sym z ∙ e)) }

-- the searches before a boundary are no more than those of all
pub few_searches : (d : Definition) (text : List ℕ) (bounds ms : List Boundary) (asked now : ℕ) → asked ≤ searches d text bounds → now ≡ asked → ms ≡ bounds → now ≤ length ms * length d.rules
few_searches d text bounds ms asked now h e at =
    subst (λ m. now ≤ length m * length d.rules) (sym at) (omega (arith, searches-few d text bounds))

-- a run without a state 0
pub stateless_of : (d : Definition) (text : List ℕ) (found : List Item) (bounds : List Boundary) → is_state d 0 ≡ false → found ≡ Error 0 0 None ∷ [] → bounds ≡ [] →
    IsRun d text found bounds
stateless_of d text found bounds e items none = record {
  lexed = λ z. absurd (true≢false (sym z ∙ e));
  stateless = λ z. record { items_are = items; boundaries_are = none };
}
