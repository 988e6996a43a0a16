-- What holds of the items of a tiling.
use Rattle.std.proofs.Common.{◌≡◌, ℕ, zero, suc, ◌+◌, ◌<◌, ◌≤◌, Bool, true, false, cond, ◌&&◌, List, [], ◌∷◌, ◌++◌, All, length, take, drop, Option, Some, None, IsSome, IsNone, IfSome, is_some, is_none, unwrap_or, slice_get, get_or, refl, sym, ap, ◌∙◌, subst, inl, inr, arith, true≢false, add-one, append_assoc, IsCharBoundary, IsUtf8, Any}
use Rattle.std.proofs.Props.{props}
use Rattle.std.proofs.Math.Logic.{∥∥₁_elim}
use Rattle.std.specs.List.{list_any, concat, AllPairs, AllAdjacentBelow}
use Rattle.std.proofs.Math.Seq.{take-add}
use Rattle.std.proofs.lemmas.Bool.{cond_both, cases_Bool}
use Rattle.std.proofs.lemmas.List.{drop-drop, length-drop, take-append-drop}
use Rattle.std.proofs.lemmas.List.Elements.{All-nil, All-cons, All-append, All-push, All-weaker}
use Rattle.std.proofs.lemmas.List.Kept.{AllPairs-cons}
use Rattle.std.proofs.lemmas.List.Sums.{sum_by-append, sum_by-cons}
use Rattle.std.proofs.lemmas.Option.{slice_get_within, get_or_from_slice_get, none-some}
use Rattle.std.proofs.lemmas.Str.{IsCharBoundary-start, IsCharBoundary-from_rest}
use Rattle.lrlex_rules.specs.Definition.{Definition, Rule}
use Rattle.lrlex_matching.specs.Matching.{match_length}
use Rattle.lrlex_matching.proofs.ForCallers.{length_cuts}
use Rattle.lrlex_rules.specs.Patterns.{pattern_of}
use Rattle.lrlex_rules.specs.Active.{is_active, is_state, taken_by, taken_by_any, no_rule, rule_at, lexeme_id, lacks_id}
use Rattle.lrlex_rules.specs.Tiling.{Tile, Item, Item-set, Lexeme, Error, Wins, IsWinner, top, End, Done, NoMatch, NoId, NoTarget, IsEnd, stack_past, IsTiling, lexeme_of, tile_items, end_items, items}
use Rattle.lrlex_boundaries.specs.Boundaries.{Boundary}
use Rattle.lrlex.specs.Reach.{IsLexed, IsRun}
use Rattle.lrlex.specs.ItemLaws.{is_error, HasItsLength, FitsText, HasNamedRule, EndsBefore, GoesOn, last_end, tile_texts, total_len, StopsAt, IsUnnamed, IsUnnamedBetween, IsUnnamedBefore, AreItemsOf, CoverText, HaveLaws}
use Rattle.lrlex.proofs.KnownLemmas.{known}
use Rattle.lrlex_rules.proofs.TilingLemmas.{Wins-le}

-- ---- a winner ends between characters

EndsCleanly : List ℕ → ℕ → Type 0
EndsCleanly text n = n ≤ length text → 0 < n → IsCharBoundary text n

taken_by-cut : (d : Definition) (q : ℕ) (text : List ℕ) (r : Rule) → EndsCleanly text (taken_by d q text r)
unfolding taken_by EndsCleanly
taken_by-cut d q text r =
    cond_both (is_active d.states q r) (match_length (pattern_of r) text) 0 (EndsCleanly text) (λ e le some. length_cuts (pattern_of r) text _ refl some le)
    (λ e le some. absurd (omega (arith, some)))

taken_by_any-cut : (d : Definition) (q : ℕ) (text : List ℕ) (o : Option Rule) → EndsCleanly text (taken_by_any d q text o)
unfolding EndsCleanly
taken_by_any-cut d q text None = λ le some. absurd (omega (arith, some))
taken_by_any-cut d q text (Some r) = taken_by-cut d q text r

pub Wins-cut : (d : Definition) (q : ℕ) (text : List ℕ) (k n : ℕ) → Wins d q text k n → IsCharBoundary text n
unfolding EndsCleanly
Wins-cut d q text k n w = subst (EndsCleanly text) w.takes (taken_by_any-cut d q text (slice_get d.rules k)) (Wins-le d q text k n w) w.some

-- ---- a lexeme's rule has a name and its id

abbrev AreNamed : List Rule → ℕ → Type 0
AreNamed rules id = Any (λ (r : Rule). IsSome r.name × (r.id ≡ Some id)) rules

name_and_id : (name : Option (List ℕ)) (own : Option ℕ) (id : ℕ) → cond (is_some name) own None ≡ Some id → IsSome name × (own ≡ Some id)
name_and_id None own id h = absurd (none-some id h)
name_and_id (Some n) own id h = (refl, h)

rule_named : (rules : List Rule) (k id : ℕ) (o : Option Rule) → slice_get rules k ≡ o → lexeme_id (unwrap_or o no_rule) ≡ Some id → AreNamed rules id
rule_named rules k id None e h = absurd (none-some id h)
rule_named rules k id (Some r) e h = (k, r, slice_get_within rules k r e, get_or_from_slice_get rules k r r e, name_and_id r.name r.id id h)

named_rule : (d : Definition) (k id : ℕ) → lexeme_id (rule_at d k) ≡ Some id → AreNamed d.rules id
named_rule d k id h = rule_named d.rules k id (slice_get d.rules k) refl h

-- a rule that gives no lexeme, and doesn't stop lexing, has no name
no_name : (name : Option (List ℕ)) (own : Option ℕ) → (is_some name && is_none own) ≡ false → cond (is_some name) own None ≡ None → IsNone name
no_name None own h e = refl
no_name (Some n) None h e = absurd (true≢false h)
no_name (Some n) (Some id) h e = absurd (none-some id (sym e))

-- ---- each item

pub record IsSoundLexeme (d : Definition) (text : List ℕ) (from id start len : ℕ) : Type 0 where
  pub some : 0 < len
  pub from_on : from ≤ start
  pub begins : IsCharBoundary text 0 → IsCharBoundary text start
  pub ends : IsCharBoundary text (start + len)
  pub named : AreNamed d.rules id

pub record IsSoundError (text : List ℕ) (from start end : ℕ) : Type 0 where
  pub same : start ≡ end
  pub from_on : from ≤ start
  pub begins : IsCharBoundary text 0 → IsCharBoundary text start

abbrev pub IsSound : Definition → List ℕ → ℕ → Item → Type 0
IsSound d text from (Lexeme id start len faulty) = IsSoundLexeme d text from id start len
IsSound d text from (Error start end state) = IsSoundError text from start end

from_before : (d : Definition) (text : List ℕ) (p q : ℕ) → p ≤ q → (x : Item) → IsSound d text q x → IsSound d text p x
from_before d text p q le (Lexeme id start len faulty) s = record { some = s.some; from_on = omega (arith, s.from_on); begins = s.begins; ends = s.ends; named = s.named }
from_before d text p q le (Error start end state) s = record { same = s.same; from_on = omega (arith, s.from_on); begins = s.begins }

module _ (d : Definition) (text : List ℕ) where
  abbrev Begins : ℕ → Type 0
  Begins place = IsCharBoundary text 0 → IsCharBoundary text place

  abbrev AllSound : ℕ → List Item → Type 0
  AllSound place xs = All (IsSound d text place) xs

  error_sound : (place : ℕ) (state : Option ℕ) → Begins place → AllSound place (Error place place state ∷ [])
  error_sound place state b = All-cons (IsSound d text place) (Error place place state) [] (record { same = refl; from_on = omega arith; begins = b }) (All-nil (IsSound d text place))

  lexeme_sound : (place k len : ℕ) (o : Option ℕ) → lexeme_id (rule_at d k) ≡ o → place ≤ length text → Begins place → (stack : List ℕ) → Wins d (top stack) (drop place text) k len → AllSound place (lexeme_of o place len)
  lexeme_sound place k len None e le b stack w = All-nil (IsSound d text place)
  lexeme_sound place k len (Some id) e le b stack w =
      All-cons (IsSound d text place) (Lexeme id place len false) [] (record {
        some = w.some;
        from_on = omega arith;
        begins = b;
        ends = IsCharBoundary-from_rest text place len le (Wins-cut d (top stack) (drop place text) k len w);
        named = named_rule d k id e;
      }) (All-nil (IsSound d text place))

  tile_sound : (place : ℕ) (t : Tile) (stack : List ℕ) → place ≤ length text → Begins place → IsWinner d (drop place text) stack t → AllSound place (tile_items d place t)
  tile_sound place t stack le b w = lexeme_sound place t.rule t.len (lexeme_id (rule_at d t.rule)) refl le b stack w

  end_sound : (place : ℕ) (stack : List ℕ) (e : End) → place ≤ length text → Begins place → IsEnd d (drop place text) stack e → AllSound place (end_items d place e)
  end_sound place stack Done le b h = All-nil (IsSound d text place)
  end_sound place stack (NoMatch q) le b h = error_sound place (Some q) b
  end_sound place stack NoId le b h = error_sound place None b
  end_sound place stack (NoTarget t) le b h = All-append (IsSound d text place) (tile_items d place t) _ (tile_sound place t stack le b h.0) (error_sound place None b)

  pub items_sound : (place : ℕ) (stack : List ℕ) (ts : List Tile) (e : End) → place ≤ length text → Begins place → IsTiling d (drop place text) stack ts e → AllSound place (items d place ts e)
  items_sound place stack [] e le b h = end_sound place stack e le b h
  items_sound place stack (t ∷ ts) e le b h =
      let w = h.0.wins in
      let within : place + t.len ≤ length text = omega (arith, le, Wins-le d (top stack) (drop place text) t.rule t.len w, length-drop place text) in
      let rest : IsTiling d (drop (place + t.len) text) (stack_past d stack t) ts e = subst (λ xs. IsTiling d xs (stack_past d stack t) ts e) (drop-drop t.len place text) h.1 in
      let next = items_sound (place + t.len) (stack_past d stack t) ts e within
      (λ _. IsCharBoundary-from_rest text place t.len le (Wins-cut d (top stack) (drop place text) t.rule t.len w)) rest in
      All-append (IsSound d text place) (tile_items d place t) (items d (place + t.len) ts e) (tile_sound place t stack le b w)
      (All-weaker (IsSound d text (place + t.len)) (IsSound d text place) (from_before d text place (place + t.len) (omega arith)) (items d (place + t.len) ts e) next)

-- ---- each item and a later one

abbrev IsBefore : Item → Item → Type 0
IsBefore x y = EndsBefore x y × GoesOn x y

no_pairs : (R : Item → Item → Type 0) → AllPairs R []
no_pairs R i j x lt within = absurd (omega (arith, within))

one_item : (R : Item → Item → Type 0) (x : Item) → AllPairs R (x ∷ [])
one_item R x = AllPairs-cons R x [] (All-nil (R x)) (no_pairs R)

lexeme_before : (d : Definition) (text : List ℕ) (id place len : ℕ) (y : Item) → IsSound d text (place + len) y → IsBefore (Lexeme id place len false) y
lexeme_before d text id place len (Lexeme next_id next next_len next_faulty) s = (s.from_on, refl)
lexeme_before d text id place len (Error start end state) s = (tt, refl)

onto_pairs : (d : Definition) (text : List ℕ) (o : Option ℕ) (place len : ℕ) (rest : List Item) → All (IsSound d text (place + len)) rest → AllPairs IsBefore rest → AllPairs IsBefore (lexeme_of o place len ++ rest)
onto_pairs d text None place len rest sound pairs = pairs
onto_pairs d text (Some id) place len rest sound pairs =
    AllPairs-cons IsBefore (Lexeme id place len false) rest
    (All-weaker (IsSound d text (place + len)) (IsBefore (Lexeme id place len false)) (lexeme_before d text id place len) rest sound) pairs

error_behind : (o : Option ℕ) (place len : ℕ) (x : Item) → is_error x ≡ true → AllPairs IsBefore (lexeme_of o place len ++ x ∷ [])
error_behind None place len x is = one_item IsBefore x
error_behind (Some id) place len (Lexeme a b c f) is = absurd (true≢false (sym is))
error_behind (Some id) place len (Error start end state) is =
    AllPairs-cons IsBefore (Lexeme id place len false) (Error start end state ∷ [])
    (All-cons (IsBefore (Lexeme id place len false)) (Error start end state) [] (tt, refl) (All-nil (IsBefore (Lexeme id place len false)))) (one_item IsBefore (Error start end state))

end_pairs : (d : Definition) (place : ℕ) (e : End) → AllPairs IsBefore (end_items d place e)
end_pairs d place Done = no_pairs IsBefore
end_pairs d place (NoMatch q) = one_item IsBefore (Error place place (Some q))
end_pairs d place NoId = one_item IsBefore (Error place place None)
end_pairs d place (NoTarget t) = error_behind (lexeme_id (rule_at d t.rule)) place t.len (Error place place None) refl

pub items_pairs : (d : Definition) (text : List ℕ) (place : ℕ) (stack : List ℕ) (ts : List Tile) (e : End) → place ≤ length text → IsTiling d (drop place text) stack ts e → AllPairs IsBefore (items d place ts e)
items_pairs d text place stack [] e le h = end_pairs d place e
items_pairs d text place stack (t ∷ ts) e le h =
    let w = h.0.wins in
    let within : place + t.len ≤ length text = omega (arith, le, Wins-le d (top stack) (drop place text) t.rule t.len w, length-drop place text) in
    let rest : IsTiling d (drop (place + t.len) text) (stack_past d stack t) ts e = subst (λ xs. IsTiling d xs (stack_past d stack t) ts e) (drop-drop t.len place text) h.1 in
    onto_pairs d text (lexeme_id (rule_at d t.rule)) place t.len (items d (place + t.len) ts e)
    (items_sound d text (place + t.len) (stack_past d stack t) ts e within (λ _. IsCharBoundary-from_rest text place t.len le (Wins-cut d (top stack) (drop place text) t.rule t.len w)) rest)
    (items_pairs d text (place + t.len) (stack_past d stack t) ts e within rest)

-- ---- where lexing reaches the end

abbrev stops : End → Bool
stops Done = false
stops (NoMatch q) = true
stops NoId = true
stops (NoTarget t) = true

no_error : (o : Option ℕ) (place len : ℕ) (rest : List Item) → list_any is_error (lexeme_of o place len ++ rest) ≡ list_any is_error rest
no_error None place len rest = refl
no_error (Some id) place len rest = refl

error_at_end : (d : Definition) (place : ℕ) (ts : List Tile) (e : End) → list_any is_error (items d place ts e) ≡ stops e
error_at_end d place [] Done = refl
error_at_end d place [] (NoMatch q) = refl
error_at_end d place [] NoId = refl
error_at_end d place [] (NoTarget t) = no_error _ place t.len (Error place place None ∷ [])
error_at_end d place (t ∷ ts) e = no_error _ place t.len (items d (place + t.len) ts e) ∙ error_at_end d (place + t.len) ts e

is_done : (e : End) → stops e ≡ false → e ≡ Done
is_done Done h = refl
is_done (NoMatch q) h = absurd (true≢false h)
is_done NoId h = absurd (true≢false h)
is_done (NoTarget t) h = absurd (true≢false h)

tiles_joined : (d : Definition) (text stack : List ℕ) (ts : List Tile) → IsTiling d text stack ts Done → concat (tile_texts text ts) ≡ text
tiles_joined d text stack [] h = sym h
tiles_joined d text stack (t ∷ ts) h = ap (λ (xs : List ℕ). take t.len text ++ xs) (tiles_joined d (drop t.len text) (stack_past d stack t) ts h.1) ∙ take-append-drop t.len text

tiles_total : (d : Definition) (text stack : List ℕ) (ts : List Tile) → IsTiling d text stack ts Done → total_len ts ≡ length text
tiles_total d text stack [] h = sym (ap length h)
tiles_total d text stack (t ∷ ts) h =
    omega (arith, sum_by-cons (λ (t : Tile). t.len) t ts, tiles_total d (drop t.len text) (stack_past d stack t) ts h.1, length-drop t.len text, Wins-le d (top stack) text t.rule t.len h.0.wins)

tiles_up_to : (text : List ℕ) (ts : List Tile) → concat (tile_texts text ts) ≡ take (total_len ts) text
tiles_up_to text [] = refl
tiles_up_to text (t ∷ ts) =
    ap (λ (xs : List ℕ). take t.len text ++ xs) (tiles_up_to (drop t.len text) ts) ∙ sym (take-add t.len (total_len ts) text)
    ∙ ap (λ n. take n text) (sym (sum_by-cons (λ (t : Tile). t.len) t ts))

-- ---- an error stands where the tiles end

one_stop : (place at : ℕ) (state : Option ℕ) → at ≡ place → All (StopsAt place) (Error at at state ∷ [])
one_stop place at state is = All-cons (StopsAt place) (Error at at state) [] is (All-nil (StopsAt place))

lexeme_stop : (place : ℕ) (o : Option ℕ) (at len : ℕ) (rest : List Item) → All (StopsAt place) rest → All (StopsAt place) (lexeme_of o at len ++ rest)
lexeme_stop place None at len rest all = all
lexeme_stop place (Some id) at len rest all = All-cons (StopsAt place) (Lexeme id at len false) rest tt all

items_stop : (d : Definition) (place end : ℕ) (ts : List Tile) (e : End) → place + total_len ts ≡ end → All (StopsAt end) (items d place ts e)
items_stop d place end [] Done is = All-nil (StopsAt end)
items_stop d place end [] (NoMatch q) is = one_stop end place (Some q) (omega (arith, is))
items_stop d place end [] NoId is = one_stop end place None (omega (arith, is))
items_stop d place end [] (NoTarget t) is = lexeme_stop end (lexeme_id (rule_at d t.rule)) place t.len _ (one_stop end place None (omega (arith, is)))
items_stop d place end (t ∷ ts) e is =
    lexeme_stop end (lexeme_id (rule_at d t.rule)) place t.len _ (items_stop d (place + t.len) end ts e (omega (arith, is, sum_by-cons (λ (t : Tile). t.len) t ts)))

-- ---- what lies before, between and behind lexemes

abbrev HasNoName : Definition → Tile → Type 0
HasNoName d t = IsNone (rule_at d t.rule).name

-- up to each lexeme, from the end of the one before, there are unnamed tiles; and so up to an error, or to the end of all tiles
abbrev HasGaps : Definition → List Tile → ℕ → List Item → Type 0
HasGaps d cut p [] = IsUnnamed d cut p (total_len cut)
HasGaps d cut p (Lexeme id start len faulty ∷ xs) = IsUnnamed d cut p start × HasGaps d cut (start + len) xs
HasGaps d cut p (Error start end state ∷ xs) = (p ≤ start → IsUnnamed d cut p start) × (xs ≡ [])

-- the tiles up to a place, the last of them unnamed from p on
record IsUpTo (d : Definition) (cut ts : List Tile) (p place : ℕ) : Type 0 where
  before : List Tile
  between : List Tile
  joined : cut ≡ before ++ (between ++ ts)
  begins : p ≡ total_len before
  ends : place ≡ p + total_len between
  unnamed : All (HasNoName d) between

module _ (d : Definition) (cut : List Tile) where
  gap : (ts : List Tile) (p place : ℕ) → IsUpTo d cut ts p place → IsUnnamed d cut p place
  gap ts p place u = record { before = u.before; between = u.between; after = ts; joined = u.joined; begins = u.begins; ends = u.ends; unnamed = u.unnamed }

  total : (ts us vs : List Tile) → total_len (ts ++ (us ++ vs)) ≡ total_len ts + (total_len us + total_len vs)
  total ts us vs = sum_by-append (λ (t : Tile). t.len) ts (us ++ vs) ∙ ap (λ (n : ℕ). total_len ts + n) (sum_by-append (λ (t : Tile). t.len) us vs)

  past_unnamed : (t : Tile) (ts : List Tile) (p place : ℕ) → IsUpTo d cut (t ∷ ts) p place → HasNoName d t → IsUpTo d cut ts p (place + t.len)
  past_unnamed t ts p place u none = record {
    before = u.before;
    between = u.between ++ t ∷ [];
    joined = u.joined ∙ ap (λ (xs : List Tile). u.before ++ xs) (sym (append_assoc u.between (t ∷ []) ts));
    begins = u.begins;
    ends = omega (arith, u.ends, sum_by-append (λ (t : Tile). t.len) u.between (t ∷ []), sum_by-cons (λ (t : Tile). t.len) t []);
    unnamed = All-push (HasNoName d) u.between t u.unnamed none;
  }

  past_lexeme : (t : Tile) (ts : List Tile) (p place : ℕ) → IsUpTo d cut (t ∷ ts) p place → IsUpTo d cut ts (place + t.len) (place + t.len)
  past_lexeme t ts p place u = record {
    before = u.before ++ (u.between ++ t ∷ []);
    between = [];
    joined = u.joined ∙ ap (λ (xs : List Tile). u.before ++ xs) (sym (append_assoc u.between (t ∷ []) ts)) ∙ sym (append_assoc u.before (u.between ++ t ∷ []) ts);
    begins = omega (arith, u.begins, u.ends, total u.before u.between (t ∷ []), sum_by-cons (λ (t : Tile). t.len) t []);
    ends = omega arith;
    unnamed = All-nil (HasNoName d);
  }

  end_gaps : (text stack : List ℕ) (e : End) (p place : ℕ) → IsEnd d text stack e → IsUpTo d cut [] p place → HasGaps d cut p (end_items d place e)
  end_gaps text stack Done p place h u =
      subst (IsUnnamed d cut p) (omega (arith, u.begins, u.ends, ap total_len u.joined, total u.before u.between [])) (gap [] p place u)
  end_gaps text stack (NoMatch q) p place h u = (λ le. gap [] p place u, refl)
  end_gaps text stack NoId p place h u = (λ le. gap [] p place u, refl)
  end_gaps text stack (NoTarget t) p place h u = target_gaps (lexeme_id (rule_at d t.rule))
    where
      target_gaps : (o : Option ℕ) → HasGaps d cut p (lexeme_of o place t.len ++ Error place place None ∷ [])
      target_gaps None = (λ le. gap [] p place u, refl)
      target_gaps (Some id) = (gap [] p place u, (λ le. absurd (omega (arith, le, h.0.some)), refl))

  onto_gaps : (o : Option ℕ) (t : Tile) (ts : List Tile) (rest : List Item) (p place : ℕ) → lexeme_id (rule_at d t.rule) ≡ o → lacks_id (rule_at d t.rule) ≡ false → IsUpTo d cut (t ∷ ts) p place →
      ((q : ℕ) → IsUpTo d cut ts q (place + t.len) → HasGaps d cut q rest) → HasGaps d cut p (lexeme_of o place t.len ++ rest)
  onto_gaps None t ts rest p place is has u more = more p (past_unnamed t ts p place u (no_name (rule_at d t.rule).name (rule_at d t.rule).id has is))
  onto_gaps (Some id) t ts rest p place is has u more = (gap (t ∷ ts) p place u, more (place + t.len) (past_lexeme t ts p place u))

  items_gaps : (text stack : List ℕ) (ts : List Tile) (e : End) (p place : ℕ) → IsTiling d text stack ts e → IsUpTo d cut ts p place → HasGaps d cut p (items d place ts e)
  items_gaps text stack [] e p place h u = end_gaps text stack e p place h u
  items_gaps text stack (t ∷ ts) e p place h u =
      onto_gaps (lexeme_id (rule_at d t.rule)) t ts (items d (place + t.len) ts e) p place refl h.0.has_id u
      (λ q v. items_gaps (drop t.len text) (stack_past d stack t) ts e q (place + t.len) h.1 v)

  gaps_first : (xs : List Item) → HasGaps d cut 0 xs → IfSome (slice_get xs 0) (IsUnnamedBefore d cut)
  gaps_first [] h = tt
  gaps_first (Lexeme id start len faulty ∷ xs) h = h.0
  gaps_first (Error start end state ∷ xs) h = h.0 (omega arith)

  gaps_next : (p k : ℕ) (xs : List Item) (x : Item) → HasGaps d cut p xs → suc k < length xs → IsUnnamedBetween d cut (get_or xs k x) (get_or xs (suc k) x)
  gaps_next p k [] x h lt = absurd (omega (arith, lt))
  gaps_next p k (Error start end state ∷ xs) x h lt = absurd (omega (arith, lt, ap length h.1))
  gaps_next p k (Lexeme id start len faulty ∷ []) x h lt = absurd (omega (arith, lt))
  gaps_next p zero (Lexeme id start len faulty ∷ Lexeme next_id next next_len next_faulty ∷ xs) x h lt = h.1.0
  gaps_next p zero (Lexeme id start len faulty ∷ Error a b c ∷ xs) x h lt = h.1.0
  gaps_next p (suc k) (Lexeme id start len faulty ∷ y ∷ xs) x h lt = gaps_next (start + len) k (y ∷ xs) x h.1 (omega (arith, lt))

  gaps_last : (p : ℕ) (xs : List Item) → HasGaps d cut p xs → list_any is_error xs ≡ false → IsUnnamed d cut (last_end p xs) (total_len cut)
  gaps_last p [] h none = h
  gaps_last p (Lexeme id start len faulty ∷ xs) h none = gaps_last (start + len) xs h.1 none
  gaps_last p (Error start end state ∷ xs) h none = absurd (true≢false none)

-- ---- the laws, over what lexing answers

module _ (d : Definition) (text : List ℕ) (found : List Item) (bounds : List Boundary) where
  module _ (h : IsLexed d text found bounds) where
    all_sound : All (IsSound d text 0) found
    all_sound = subst (All (IsSound d text 0)) (sym h.items_are) (items_sound d text 0 (0 ∷ []) h.cut h.end (omega arith) (λ b. b) h.tiling)

    all_before : AllPairs IsBefore found
    all_before = subst (AllPairs IsBefore) (sym h.items_are) (items_pairs d text 0 (0 ∷ []) h.cut h.end (omega arith) h.tiling)

    all_gaps : HasGaps d h.cut 0 found
    all_gaps =
        subst (HasGaps d h.cut 0) (sym h.items_are) (items_gaps d h.cut text (0 ∷ []) h.cut h.end 0 0 h.tiling
        (record { before = []; between = []; joined = refl; begins = refl; ends = refl; unnamed = All-nil (HasNoName d) }))

    to_the_end : list_any is_error found ≡ false → IsTiling d text (0 ∷ []) h.cut Done
    to_the_end none =
        let e = is_done h.end (sym (error_at_end d 0 h.cut h.end) ∙ sym (ap (list_any is_error) h.items_are) ∙ none) in
        subst (IsTiling d text (0 ∷ []) h.cut) e h.tiling

    pub joined_tiles : list_any is_error found ≡ false → concat (tile_texts text h.cut) ≡ text
    joined_tiles none = tiles_joined d text (0 ∷ []) h.cut (to_the_end none)

    pub sum_of_tiles : list_any is_error found ≡ false → total_len h.cut ≡ length text
    sum_of_tiles none = tiles_total d text (0 ∷ []) h.cut (to_the_end none)

    pub unnamed_before : IfSome (slice_get found 0) (IsUnnamedBefore d h.cut)
    unnamed_before = gaps_first d h.cut found all_gaps

    pub unnamed_between : AllAdjacentBelow (IsUnnamedBetween d h.cut) found (length found)
    unnamed_between k x lt = rw add-one (gaps_next d h.cut 0 k found x all_gaps (omega (arith, lt)))

    pub unnamed_behind : list_any is_error found ≡ false → IsUnnamed d h.cut (last_end 0 found) (length text)
    unnamed_behind none = subst (IsUnnamed d h.cut (last_end 0 found)) (sum_of_tiles none) (gaps_last d h.cut 0 found all_gaps none)

  -- a law of all that is lexed holds of each run, if it holds of the one error without a state 0
  of_run : (P : List Item → Type 0) → IsRun d text found bounds → (IsLexed d text found bounds → P found) → P (Error 0 0 None ∷ []) → P found
  of_run P run lexed stateless = elim (cases_Bool (is_state d 0)) [
    | inl is ↦ lexed (run.lexed is)
    | inr lacks ↦ subst P (sym (run.stateless lacks).items_are) stateless
  ]

  all_of_run : (P : Item → Type 0) → IsRun d text found bounds → ((x : Item) → IsSound d text 0 x → P x) → P (Error 0 0 None) → All P found
  all_of_run P run sound stateless = of_run (All P) run (λ h. All-weaker (IsSound d text 0) P sound found (all_sound h)) (All-cons P (Error 0 0 None) [] stateless (All-nil P))

  pub have_their_lengths : IsRun d text found bounds → All HasItsLength found
  have_their_lengths run = all_of_run HasItsLength run sound refl
    where
      sound : (x : Item) → IsSound d text 0 x → HasItsLength x
      sound (Lexeme id start len faulty) s = s.some
      sound (Error start end state) s = s.same

  pub fit_the_text : IsUtf8 text → IsRun d text found bounds → All (FitsText text) found
  fit_the_text utf8 run = all_of_run (FitsText text) run sound (first, first)
    where
      first : IsCharBoundary text 0
      first = IsCharBoundary-start text utf8

      sound : (x : Item) → IsSound d text 0 x → FitsText text x
      sound (Lexeme id start len faulty) s = (s.begins first, s.ends)
      sound (Error start end state) s = (s.begins first, subst (IsCharBoundary text) s.same (s.begins first))

  pub have_named_rules : IsRun d text found bounds → All (HasNamedRule d) found
  have_named_rules run = all_of_run (HasNamedRule d) run sound tt
    where
      sound : (x : Item) → IsSound d text 0 x → HasNamedRule d x
      sound (Lexeme id start len faulty) s = s.named
      sound (Error start end state) s = tt

  pairs_of_run : IsRun d text found bounds → AllPairs IsBefore found
  pairs_of_run run = of_run (AllPairs IsBefore) run all_before (one_item IsBefore (Error 0 0 None))

  pub stand_in_order : IsRun d text found bounds → AllPairs EndsBefore found
  stand_in_order run i j x lt within = (pairs_of_run run i j x lt within).0

  pub end_by_an_error : IsRun d text found bounds → AllPairs GoesOn found
  end_by_an_error run i j x lt within = (pairs_of_run run i j x lt within).1

module _ (d : Definition) (text : List ℕ) (found : List Item) (bounds : List Boundary) where
  pub are_items : IsRun d text found bounds → AreItemsOf d text found
  are_items run = record {
    lengths = have_their_lengths d text found bounds run;
    fit = λ utf8. fit_the_text d text found bounds utf8 run;
    named = have_named_rules d text found bounds run;
    in_order = stand_in_order d text found bounds run;
    error_last = end_by_an_error d text found bounds run;
  }

  cover_text : (h : IsLexed d text found bounds) → CoverText d text found h.cut
  cover_text h = record {
    before = unnamed_before d text found bounds h;
    between = unnamed_between d text found bounds h;
    behind = λ none. unnamed_behind d text found bounds h none;
    up_to = tiles_up_to text h.cut;
    stop = subst (All (StopsAt (total_len h.cut))) (sym h.items_are) (items_stop d 0 (total_len h.cut) h.cut h.end (omega arith));
    joined = λ none. joined_tiles d text found bounds h none;
    sum = λ none. sum_of_tiles d text found bounds h none;
  }

  pub have_laws : IsRun d text found bounds → HaveLaws d text found bounds
  have_laws run = record { items = are_items run; tiles = cover_text }

-- ---- a run that is known to be there

items_prop : (xs ys : List Item) → IsProp (xs ≡ ys)
items_prop xs ys = Prim.hlevel (props, Item-set)

boundaries_prop : (xs ys : List Boundary) → IsProp (xs ≡ ys)
boundaries_prop xs ys = Prim.hlevel props

-- it is one
pub known_run : (d : Definition) (text : List ℕ) (found : List Item) (bounds : List Boundary) → ∥ IsRun d text found bounds ∥₁ → IsRun d text found bounds
known_run d text found bounds t = record {
  lexed = λ is. known d text found bounds is t;
  stateless = λ lacks. record {
    items_are = ∥∥₁_elim t (items_prop found (Error 0 0 None ∷ [])) (λ r. (r.stateless lacks).items_are);
    boundaries_are = ∥∥₁_elim t (boundaries_prop bounds []) (λ r. (r.stateless lacks).boundaries_are);
  };
}
