-- What sets of names hold.
use Rattle.std.proofs.Common.{◌≡◌, ℕ, ◌+◌, ◌<◌, Bool, true, false, not, ◌||◌, ◌&&◌, List, [], ◌∷◌, ◌++◌, length, map, take, get_or, refl, sym, ap, ◌∙◌, true≢false, ◌≢◌, Option, Some, None, is_some, option_map, MatchOption, string_bytes, ◌==◌, cond}
use Rattle.std.proofs.Math.Bool.{or-false, or-true, and-true, and-false, or_comm}
use Rattle.std.proofs.lemmas.Bool.{eqb-true}
use Rattle.std.proofs.lemmas.List.{map_more}
use Rattle.std.proofs.lemmas.List.Folds.{list_any-append, Any-from_list_any, list_any-from_Any}
use Rattle.std.proofs.lemmas.List.Sorted.{list_any-IsPermutation}
use Rattle.std.proofs.lemmas.Slice.Eq.{bytes_eq-Decides}
use Rattle.std.specs.List.{list_any}
use Rattle.std.specs.Option.{option_map_or}
use Rattle.std.specs.Borrow.{Bor}
use Rattle.std.specs.Str.{bytes_eq}
use Rattle.std.specs.HashMap.{HashMap, get_by}
use Rattle.std.specs.HashSet.{HashSet, contains, contains_by, PutsKey}
use Rattle.lrlex_rules.specs.Active.{is_active, places_from, active_places}
use Rattle.lrlex_rules.specs.Definition.{Rule, StartState}
use Rattle.lrlex_rules.specs.Ids.{is_named, ids_of, HoldsNames, HoldsTexts, HoldsPlaces, is_key_at, with_own_id}
use Rattle.lrlex_rules.specs.RuleParts.{RuleParts, as_rule}
use Rattle.std.specs.declared.string.String.{String}
use Rattle.std.specs.String.{string_eq}
use Rattle.lrlex_base.specs.Spans.{Span, as_span, same_span}
use Rattle.lrlex_base.specs.contracts.spans.SpanPartialEq.TheImpl as own
use Rattle.lrlex_base.specs.declared.spans.Span.{Span as TheSpan}
use Rattle.lrlex_rules.specs.declared.states.StartState as start
use Rattle.lrlex_rules.proofs.PlaceLemmas.{active_places-by}

-- ---- one more key

passes_too : {K : Type 0} (p q : K → Bool) (xs : List K) → ((y : K) → p y ≡ true → q y ≡ true) → list_any p xs ≡ true → list_any q xs ≡ true
passes_too p q xs h e =
    let any = Any-from_list_any p xs e in
    list_any-from_Any q xs (any.0, any.1, any.2, any.3, h any.1 any.4)

or_same : (b c : Bool) → (b ≡ true → c ≡ true) → c ≡ (c || b)
or_same b true h = refl
or_same true false h = h refl
or_same false false h = refl

was_there : (b : Bool) → false ≡ not b → b ≡ true
was_there true e = refl
was_there false e = absurd (true≢false (sym e))

-- what a set holds once a key was put in: the test tells no equal keys apart
pub inserted : {K H : Type 0} (eq : K → K → Bool) (test : K → Bool) (old new : HashSet K H) (k : K) (added : Bool) →
    ((y : K) → eq k y ≡ true → test y ≡ test k) → added ≡ not (contains eq old k) → PutsKey old new k added →
    contains_by test new ≡ (contains_by test old || test k)
inserted eq test old new k true same is puts =
    sym (list_any-IsPermutation test (k ∷ old.keys) new.keys puts) ∙ or_comm (test k) (list_any test old.keys)
inserted eq test old new k false same is puts =
    ap (list_any test) puts
    ∙ or_same (test k) (list_any test old.keys) (λ t. passes_too (eq k) test old.keys (λ y e. same y e ∙ t) (was_there _ is))

-- ---- one more name, of which h says whether it stands in the other collection

pub with_name : (a b h s : Bool) → s ≡ (a && not h) → (b ≡ true → h ≡ false) → (s || b) ≡ ((a || b) && not h)
with_name a false h s e absent = or-false s ∙ e ∙ ap (λ c. c && not h) (sym (or-false a))
with_name a true true s e absent = absurd (true≢false (absent refl))
with_name a true false s e absent = or-true s ∙ sym (and-true (a || true) ∙ or-true a)

pub without_name : (a b h s : Bool) → s ≡ (a && not h) → (b ≡ true → h ≡ true) → s ≡ ((a || b) && not h)
without_name a false h s e there = e ∙ ap (λ c. c && not h) (sym (or-false a))
without_name a true true s e there = e ∙ and-false a ∙ sym (and-false (a || true))
without_name a true false s e there = absurd (true≢false (sym (there refl)))

pub named_more : {S : Type 0} (number : S → ℕ) (p : Rule → Bool) (rules : List (RuleParts S)) (i : ℕ) (r : RuleParts S) → i < length rules → r ≡ get_or rules i r →
    list_any p (map (as_rule number) (take (i + 1) rules)) ≡ (list_any p (map (as_rule number) (take i rules)) || p (as_rule number r))
named_more number p rules i r within read =
    ap (list_any p) (map_more (as_rule number) rules i r within ∙ ap (λ x. map (as_rule number) (take i rules) ++ as_rule number x ∷ []) (sym read))
    ∙ list_any-append p (map (as_rule number) (take i rules)) (as_rule number r ∷ [])
    ∙ ap (λ b. list_any p (map (as_rule number) (take i rules)) || b) (or-false (p (as_rule number r)))

-- ---- names as bytes

pub same_name : (name key other : List ℕ) → bytes_eq key other ≡ true → bytes_eq name other ≡ bytes_eq name key
same_name name key other e = ap (bytes_eq name) (sym ((bytes_eq-Decides key other).0 e))

-- a rule's name, and that it has none
pub named : (name own : List ℕ) (r : Rule) → Some own ≡ r.name → is_named name r ≡ bytes_eq name own
named name own r e = ap (λ (o : Option (List ℕ)). option_map_or (λ n. bytes_eq name n) o false) (sym e)

pub unnamed : (name : List ℕ) (r : Rule) → None ≡ r.name → is_named name r ≡ false
unnamed name r e = ap (λ (o : Option (List ℕ)). option_map_or (λ n. bytes_eq name n) o false) (sym e)

pub some_of : {A B : Type 0} (f : A → B) (o : Option A) → is_some (option_map f o) ≡ is_some o
some_of f None = refl
some_of f (Some x) = refl

-- whether the map has a name, found by the bytes of another
pub has_name : {S H : Type 0} (number : S → ℕ) (ids : HashMap (Bor (List ℕ)) S H) (name own : List ℕ) (b : Bool) →
    b ≡ is_some (get_by (λ k. bytes_eq own k.now) ids) → bytes_eq name own ≡ true → is_some (ids_of number ids name) ≡ b
has_name number ids name own b is e =
    some_of number (get_by (λ k. bytes_eq name k.now) ids)
    ∙ ap (λ n. is_some (get_by (λ k. bytes_eq n k.now) ids)) ((bytes_eq-Decides name own).0 e) ∙ sym is

-- ---- none in place of an empty set

pub holds_names : {H : Type 0} (test : List ℕ → Bool) (names : HashSet (Bor (List ℕ)) H) (o : Option (HashSet (Bor (List ℕ)) H)) →
    MatchOption o (names.keys ≡ []) (λ s. (s ≡ names) × (s.keys ≢ [])) →
    ((name : List ℕ) → contains_by (λ k. bytes_eq name k.now) names ≡ test name) → HoldsNames test o
holds_names test names None none has = λ name. sym (has name) ∙ ap (list_any (λ k. bytes_eq name k.now)) none
holds_names test names (Some s) some has = (some.1, λ name. ap (contains_by (λ k. bytes_eq name k.now)) some.0 ∙ has name)

pub holds_texts : {Y H : Type 0} (test : List ℕ → Bool) (names : HashSet (String Y) H) (o : Option (HashSet (String Y) H)) →
    MatchOption o (names.keys ≡ []) (λ s. (s ≡ names) × (s.keys ≢ [])) →
    ((name : List ℕ) → contains_by (λ k. bytes_eq name (string_bytes k)) names ≡ test name) → HoldsTexts test o
holds_texts test names None none has = λ name. sym (has name) ∙ ap (list_any (λ k. bytes_eq name (string_bytes k))) none
holds_texts test names (Some s) some has = (some.1, λ name. ap (contains_by (λ k. bytes_eq name (string_bytes k))) some.0 ∙ has name)

pub holds_places : {Y H : Type 0} (test : List ℕ → Span → Bool) (names : HashSet (String Y × TheSpan) H) (o : Option (HashSet (String Y × TheSpan) H)) →
    MatchOption o (names.keys ≡ []) (λ s. (s ≡ names) × (s.keys ≢ [])) →
    ((name : List ℕ) (place : Span) → contains_by (is_key_at name place) names ≡ test name place) → HoldsPlaces test o
holds_places test names None none has = λ name place. sym (has name place) ∙ ap (list_any (is_key_at name place)) none
holds_places test names (Some s) some has = (some.1, λ name place. ap (contains_by (is_key_at name place)) some.0 ∙ has name place)

-- ---- names with their places

both : (a b : Bool) → (a && b) ≡ true → (a ≡ true) × (b ≡ true)
both true b e = (refl, e)
both false b e = absurd (true≢false (sym e))

pub and_left : (a b : Bool) → (a && b) ≡ true → a ≡ true
and_left a b e = (both a b e).0

same_places : (a b : TheSpan) → (own.ghosts).eq a b ≡ true → as_span a ≡ as_span b
same_places a b e =
    let parts = both (a.start == b.start) (a.end == b.end) e in
    λ i. record { start = eqb-true a.start b.start parts.0 i; end = eqb-true a.end b.end parts.1 i }

-- `==` of two names with their places
abbrev pub key_eq : {Y : Type 0} → String Y × TheSpan → String Y × TheSpan → Bool
key_eq a b = string_eq a.0 b.0 && (own.ghosts).eq a.1 b.1

pub same_key : {Y : Type 0} (name : List ℕ) (place : Span) (key other : String Y × TheSpan) → key_eq key other ≡ true →
    is_key_at name place other ≡ is_key_at name place key
same_key name place key other e =
    let parts = both _ _ e in
    ap (λ b. b && same_span (as_span other.1) place) (same_name name (string_bytes key.0) (string_bytes other.0) parts.0)
    ∙ ap (λ s. bytes_eq name (string_bytes key.0) && same_span s place) (sym (same_places key.1 other.1 parts.1))

-- ---- the places of active rules do not rest on ids

kept_active : (ids : List ℕ → Option ℕ) (states : List StartState) (q k : ℕ) (rules : List Rule) →
    places_from (is_active states q) k (map (with_own_id ids) rules) ≡ places_from (is_active states q) k rules
unfolding is_active
kept_active ids states q k [] = refl
kept_active ids states q k (r ∷ rules) = ap (λ (places : List ℕ). cond (is_active states q r) (k ∷ places) places) (kept_active ids states q (k + 1) rules)

places_after : {S : Type 0} (number : S → ℕ) (ids : List ℕ → Option ℕ) (states : List StartState) (old new : List (RuleParts S)) →
    map (as_rule number) new ≡ map (with_own_id ids) (map (as_rule number) old) →
    (q : ℕ) → active_places states (map (as_rule (λ s. 0)) new) q ≡ active_places states (map (as_rule (λ s. 0)) old) q
places_after number ids states old new e q =
    active_places-by number states new q ∙ ap (λ rules. active_places states rules q) e
    ∙ kept_active ids states q 0 (map (as_rule number) old) ∙ sym (active_places-by number states old q)

pub lists_after : {S : Type 0} (number : S → ℕ) (ids : List ℕ → Option ℕ) (states : List StartState) (old new : List (RuleParts S)) →
    map (as_rule number) new ≡ map (with_own_id ids) (map (as_rule number) old) → (starts : List start.StartState) →
    map (λ s. active_places states (map (as_rule (λ s. 0)) old) s.id) starts ≡ map (λ s. active_places states (map (as_rule (λ s. 0)) new) s.id) starts
lists_after number ids states old new e starts = λ i. map (λ s. sym (places_after number ids states old new e s.id) i) starts
