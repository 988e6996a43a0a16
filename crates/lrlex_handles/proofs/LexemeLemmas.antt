-- The lexemes that a scanner finds, one after the other, and the tokens of them that are written.
use Rattle.std.proofs.Common.{◌≡◌, ℕ, ◌+◌, ◌-◌, ◌<◌, ◌≤◌, Bool, cond, is_some, true, false, true≢false, List, [], ◌∷◌, ◌++◌, length, set, Option, Some, None, option_map, unwrap_or, slice_get, refl, sym, ap, ap₂, ◌∙◌, subst, arith, append_assoc, append-nil, length-append}
use Prim.Native.Nat.{suc, zero}
use Rattle.std.proofs.lemmas.Bool.{cond-false}
use Rattle.lrlex_base.specs.Spans.{Span, span_end, span_start}
use Rattle.lrlex_rules.specs.Definition.{Definition}
use Rattle.lrlex_rules.specs.RuleParts.{state_number}
use Rattle.lrlex.specs.Active.{is_state, lacks_id, lexeme_id, rule_at}
use Rattle.lrlex.specs.Scanner.{EndsBy, IsAtFront, IsStep, IsTileAt, Scanned, left, past, top_state}
use Rattle.lrlex.specs.Tiling.{Item, Lexeme, Error, Tile, lexeme_of, tile_items}
use Rattle.lrlex.specs.Tiling.{Done as Whole, NoMatch as Stuck, NoId as LacksId, NoTarget as LacksTarget}
use Rattle.lrlex.specs.declared.lexing.scanner.ScannedTile.{ScannedTile}
use Rattle.lrlex.specs.declared.lexing.scanner.ScanEnd.{ScanEnd}
use Rattle.lrlex.specs.declared.lexing.scanner.ScanEnd.TheVariants.{Done, NoMatch, NoId, NoTarget, NoState}
use Rattle.lrlex.specs.declared.lexing.scanner.Step.TheVariants.{Tile as Found}
use Rattle.lrlex.proofs.ScannedRuns.{HasFound, IsRunOfScanner, found_front, found_more, run_found, run_stateless, top_or_zero}
use Rattle.lrlex.proofs.ScannerLemmas.{less_left}
use Rattle.lrlex_handles.specs.Answers.{AreTokensOf, outcome}
use Rattle.lrlex_handles.specs.Buffers.{filled, put_token}
use Rattle.lrlex_handles.specs.Lexemes.{AreCounted, HasFinished, HasPut, ended_by, last_lexemes, lexeme_by}
use Rattle.lrlex_handles.specs.declared.structs.Lexed.{Lexed}
use Rattle.lrlex_handles.specs.declared.structs.Token.{Token}
use Rattle.lrlex_handles.proofs.TileLemmas.{filled_more}

-- ---- one more in the buffer

length-filled : {X T : Type 0} (put : X → T → T) (xs : List X) (room : List T) → length (filled put xs room) ≡ length room
length-filled put [] room = refl
length-filled put (x ∷ xs) [] = refl
length-filled put (x ∷ xs) (t ∷ ts) = omega (arith, length-filled put xs ts)

filled-nothing : {X T : Type 0} (put : X → T → T) (xs : List X) → filled put xs [] ≡ []
filled-nothing put [] = refl
filled-nothing put (x ∷ xs) = refl

-- what comes past the buffer's end changes nothing
filled_past : {X T : Type 0} (put : X → T → T) (xs ys : List X) (room : List T) → length room ≤ length xs → filled put xs room ≡ filled put (xs ++ ys) room
filled_past put [] ys [] h = sym (filled-nothing put ys)
filled_past put [] ys (t ∷ ts) h = let z : ⊥ = omega (arith, h) in absurd z
filled_past put (x ∷ xs) ys [] h = refl
filled_past put (x ∷ xs) ys (t ∷ ts) h = let le : length ts ≤ length xs = omega (arith, h) in ap (λ us. put x t ∷ us) (filled_past put xs ys ts le)

-- nor does an error
filled_error : (xs : List Item) (room : List Token) (from to : ℕ) (state : Option ℕ) → filled put_token (xs ++ Error from to state ∷ []) room ≡ filled put_token xs room
filled_error [] [] from to state = refl
filled_error [] (t ∷ ts) from to state = refl
filled_error (x ∷ xs) [] from to state = refl
filled_error (x ∷ xs) (t ∷ ts) from to state = ap (λ us. put_token x t ∷ us) (filled_error xs ts from to state)

length-one_more : (found : List Item) (x : Item) (count : ℕ) → count ≡ length found → count + 1 ≡ length (found ++ x ∷ [])
length-one_more found x count is = omega (arith, is, length-append found (x ∷ []))

pub counted_within : (found : List Item) (room tokens : List Token) (count id start len : ℕ) (v : Token) → v ≡ record { start = start; len = len; id = id } → count < length tokens →
    AreCounted found room tokens count → AreCounted (found ++ Lexeme id start len false ∷ []) room (set tokens count v) (count + 1)
counted_within found room tokens count id start len v is within h =
    let lt : length found < length room = omega (arith, within, h.count-is, ap length h.tokens-are, length-filled put_token found room) in
    record {
      tokens-are = ap₂ (λ us n. set us n v) h.tokens-are h.count-is ∙ filled_more put_token found (Lexeme id start len false) room v lt (λ t. sym is);
      count-is = length-one_more found (Lexeme id start len false) count h.count-is;
    }

pub counted_past : (found : List Item) (room tokens : List Token) (count : ℕ) (x : Item) → length tokens ≤ count →
    AreCounted found room tokens count → AreCounted (found ++ x ∷ []) room tokens (count + 1)
counted_past found room tokens count x past_end h =
    let le : length room ≤ length found = omega (arith, past_end, h.count-is, ap length h.tokens-are, length-filled put_token found room) in
    record {
      tokens-are = h.tokens-are ∙ filled_past put_token found (x ∷ []) room le;
      count-is = length-one_more found x count h.count-is;
    }

-- ---- lexemes alone

abbrev pub AreLexemes : List Item → Type 0
AreLexemes [] = Unit {0}
AreLexemes (Lexeme id start len faulty ∷ xs) = AreLexemes xs
AreLexemes (Error start end state ∷ xs) = ⊥

lexemes_more : (xs : List Item) (o : Option ℕ) (start len : ℕ) → AreLexemes xs → AreLexemes (xs ++ lexeme_of o start len)
lexemes_more [] None start len h = tt
lexemes_more [] (Some id) start len h = tt
lexemes_more (Lexeme a b c f ∷ xs) o start len h = lexemes_more xs o start len h
lexemes_more (Error a b c ∷ xs) o start len h = absurd h

one_at_most : (o : Option ℕ) (start len : ℕ) → length (lexeme_of o start len) ≤ 1
one_at_most None start len = omega arith
one_at_most (Some id) start len = omega arith

abbrev went : (n end q : ℕ) → Lexed
went n end q = record { count = n; end = end; state = q; stopped = false; unmatched = false }

outcome_lexemes : (xs : List Item) (i n end q : ℕ) → AreLexemes xs → outcome (slice_get xs i) n end q ≡ went n end q
outcome_lexemes [] i n end q h = refl
outcome_lexemes (Lexeme a b c f ∷ xs) zero n end q h = refl
outcome_lexemes (Lexeme a b c f ∷ xs) (suc i) n end q h = outcome_lexemes xs i n end q h
outcome_lexemes (Error a b c ∷ xs) i n end q h = absurd h

-- ---- an error behind them

item_at : (xs : List Item) (x : Item) → slice_get (xs ++ x ∷ []) (length xs) ≡ Some x
item_at [] x = refl
item_at (y ∷ ys) x = item_at ys x

abbrev failed : (n end q : ℕ) → Option ℕ → Lexed
failed n end q None = record { count = n; end = end; state = q; stopped = true; unmatched = false }
failed n end q (Some p) = record { count = n; end = end; state = q; stopped = true; unmatched = true }

outcome_failed : (from to : ℕ) (state : Option ℕ) (k n end q : ℕ) → k - 1 ≡ n → outcome (Some (Error from to state)) k end q ≡ failed n end q state
outcome_failed from to None k n end q is = ap (λ m. failed m end q None) is
outcome_failed from to (Some p) k n end q is = ap (λ m. failed m end q (Some p)) is

outcome_error : (xs : List Item) (from to : ℕ) (state : Option ℕ) (end q : ℕ) →
    outcome (slice_get (xs ++ Error from to state ∷ []) (length (xs ++ Error from to state ∷ []) - 1)) (length (xs ++ Error from to state ∷ [])) end q ≡ failed (length xs) end q state
outcome_error xs from to state end q =
    let all = xs ++ Error from to state ∷ [] in
    let n : length all - 1 ≡ length xs = omega (arith, length-append xs (Error from to state ∷ [])) in
    ap (λ i. outcome (slice_get all i) (length all) end q) n ∙ ap (λ o. outcome o (length all) end q) (item_at xs (Error from to state)) ∙ outcome_failed from to state (length all) (length xs) end q n

-- ---- the lexeme of a tile

same_id : (o : Option ℕ) → o ≡ option_map (λ (n : ℕ). n) o
same_id None = refl
same_id (Some id) = refl

tile_lexeme : (d : Definition) (place : ℕ) (x : ScannedTile ℕ) (t : Tile) → IsTileAt (λ n. n) d place x t → lexeme_by x ≡ tile_items d place t
tile_lexeme d place x t at =
    let start : span_start x.span ≡ place = ap (λ (sp : Span). sp.start) at.bytes in
    let end : span_end x.span ≡ place + t.len = ap (λ (sp : Span). sp.end) at.bytes in
    let len : span_end x.span - span_start x.span ≡ t.len = omega arith in
    ap (λ o. lexeme_of o (span_start x.span) (span_end x.span - span_start x.span)) (same_id x.id ∙ at.id)
    ∙ ap₂ (λ p n. lexeme_of (lexeme_id (rule_at d t.rule)) p n) start len

-- ---- on the way

-- From the front of its text a scanner found so many lexemes, which are written as far as there is room.
pub record AreSoFar (front s : Scanned) (room tokens : List Token) (count : ℕ) : Type 0 where
  pub found : List Item
  pub has_found : HasFound found s
  pub lexemes : AreLexemes found
  pub counted : AreCounted found room tokens count
  pub few : count ≤ s.place
  pub definition : s.definition ≡ front.definition
  pub text : s.text ≡ front.text

pub none_so_far : (s : Scanned) (room : List Token) → IsAtFront s.definition s.text s → is_state s.definition 0 ≡ true → AreSoFar s s room room 0
none_so_far s room at z = record {
  found = [];
  has_found = subst (λ x. HasFound [] x) (sym at) (found_front s.definition s.text s.most_cells z);
  lexemes = tt;
  counted = record { tokens-are = refl; count-is = refl };
  few = omega arith;
  definition = refl;
  text = refl;
}

-- the count is below the end of the next tile
pub few_before : (s : Scanned) (count : ℕ) (x : ScannedTile ℕ) → count ≤ s.place → IsStep (λ n. n) s (Found x) → count < span_end x.span
few_before s count x few step =
    let end : span_end x.span ≡ s.place + step.0.len = ap (λ (sp : Span). sp.end) step.1.bytes in
    omega (arith, few, end, step.2.wins.some)

-- and below the end of that which comes with an end
pub few_at_end : (s : Scanned) (count : ℕ) (x : ScannedTile ℕ) → count ≤ s.place → EndsBy (λ n. n) s (NoTarget x) → count < span_end x.span
few_at_end s count x few ends =
    let end : span_end x.span ≡ s.place + ends.0.len = ap (λ (sp : Span). sp.end) ends.1.bytes in
    omega (arith, few, end, ends.2.0.some)

pub more_so_far : (front s z : Scanned) (room tokens tokens' : List Token) (count count' : ℕ) (x : ScannedTile ℕ) → z ≡ past s x → IsStep (λ n. n) s (Found x) →
    HasPut x tokens tokens' count count' →
    AreSoFar front s room tokens count → AreSoFar front z room tokens' count'
more_so_far front s z room tokens tokens' count count' x moved step put h =
    let counted = put h.found room h.counted in
    let end : span_end x.span ≡ s.place + step.0.len = ap (λ (sp : Span). sp.end) step.1.bytes in
    let few : count' ≤ span_end x.span = omega (arith, h.few, h.counted.count-is, counted.count-is, length-append h.found (lexeme_by x), one_at_most x.id (span_start x.span) (span_end x.span - span_start x.span), end, step.2.wins.some) in
    subst (λ y. AreSoFar front y room tokens' count') (sym moved) (record {
      found = h.found ++ lexeme_by x;
      has_found = subst (λ ys. HasFound (h.found ++ ys) (past s x)) (sym (tile_lexeme s.definition s.place x step.0 step.1)) (found_more (λ n. n) h.found s x step.0 step.1 step.2 h.has_found);
      lexemes = lexemes_more h.found x.id (span_start x.span) (span_end x.span - span_start x.span) h.lexemes;
      counted = counted;
      few = few;
      definition = h.definition;
      text = h.text;
    })

pub less_so_far : (s z : Scanned) (x : ScannedTile ℕ) → z ≡ past s x → IsStep (λ n. n) s (Found x) → length (left z) < length (left s)
less_so_far s z x moved step = omega (arith, ap (λ y. length (left y)) moved, less_left (λ n. n) s x step.0 step.1 step.2)

-- ---- at the end

module _ (s : Scanned) (room tokens : List Token) (lexed : Lexed) where
  -- the run has these items, which end where the scanner stands
  by_run : (all : List Item) (r : IsRunOfScanner all s) → tokens ≡ filled put_token all room →
      lexed ≡ outcome (slice_get all (length all - 1)) (length all) s.place (unwrap_or (top_state s.stack) 0) → AreTokensOf s.definition s.text 0 room tokens lexed
  by_run all r tokens-are lexed-is = record {
    found = all;
    bounds = r.bounds;
    run = r.run;
    tokens-are = tokens-are;
    lexed-is = lexed-is ∙ ap₂ (λ p q. outcome (slice_get all (length all - 1)) (length all) p q) (sym r.end) (top_or_zero s.stack ∙ sym (ap (λ o. unwrap_or o 0) r.state));
  }

  by_error : (lexs : List Item) (state : Option ℕ) → IsRunOfScanner (lexs ++ Error s.place s.place state ∷ []) s → tokens ≡ filled put_token lexs room →
      lexed ≡ failed (length lexs) s.place (unwrap_or (top_state s.stack) 0) state → AreTokensOf s.definition s.text 0 room tokens lexed
  by_error lexs state r tokens-are lexed-is =
      by_run (lexs ++ Error s.place s.place state ∷ []) r (tokens-are ∙ sym (filled_error lexs room s.place s.place state))
      (lexed-is ∙ sym (outcome_error lexs s.place s.place state s.place (unwrap_or (top_state s.stack) 0)))

  at_end : (found : List Item) (e : ScanEnd ℕ) → HasFound found s → AreLexemes found → EndsBy (λ n. n) s e → tokens ≡ filled put_token (found ++ last_lexemes e) room →
      lexed ≡ ended_by (length (found ++ last_lexemes e)) s e → AreTokensOf s.definition s.text 0 room tokens lexed
  at_end found Done h lexemes e tokens-are lexed-is =
      let all = found ++ [] in
      by_run all (run_found found s Whole h e) tokens-are
      (lexed-is ∙ sym (outcome_lexemes all (length all - 1) (length all) s.place (unwrap_or (top_state s.stack) 0) (subst AreLexemes (sym (append-nil found)) lexemes)))
  at_end found (NoMatch q) h lexemes e tokens-are lexed-is =
      by_error found (Some (state_number q)) (run_found found s (Stuck (state_number q)) h e) (tokens-are ∙ ap (λ xs. filled put_token xs room) (append-nil found))
      (lexed-is ∙ ap (λ xs. failed (length xs) s.place (unwrap_or (top_state s.stack) 0) (Some (state_number q))) (append-nil found))
  at_end found (NoId k) h lexemes e tokens-are lexed-is =
      by_error found None (run_found found s LacksId h (e.0, e.2, subst (λ i. lacks_id (rule_at s.definition i) ≡ true) (sym e.1) e.3)) (tokens-are ∙ ap (λ xs. filled put_token xs room) (append-nil found))
      (lexed-is ∙ ap (λ xs. failed (length xs) s.place (unwrap_or (top_state s.stack) 0) None) (append-nil found))
  at_end found (NoTarget x) h lexemes e tokens-are lexed-is =
      let behind = Error s.place s.place None ∷ [] in
      let same : found ++ (tile_items s.definition s.place e.0 ++ behind) ≡ (found ++ lexeme_by x) ++ behind =
      ap (λ xs. found ++ (xs ++ behind)) (sym (tile_lexeme s.definition s.place x e.0 e.1)) ∙ sym (append_assoc found (lexeme_by x) behind) in
      by_error (found ++ lexeme_by x) None (subst (λ xs. IsRunOfScanner xs s) same (run_found found s (LacksTarget e.0) h e.2)) tokens-are lexed-is
  at_end found NoState h lexemes e tokens-are lexed-is = absurd (true≢false (sym h.initial ∙ e))

pub tokens_so_far : (front s z : Scanned) (room tokens tokens' : List Token) (count : ℕ) (lexed : Lexed) (e : ScanEnd ℕ) → z ≡ s → EndsBy (λ n. n) s e →
    HasFinished z e tokens tokens' count lexed →
    AreSoFar front s room tokens count → AreTokensOf front.definition front.text 0 room tokens' lexed
tokens_so_far front s z room tokens tokens' count lexed e stays ends finish h =
    let last = finish h.found room h.counted in
    let lexed-is : lexed ≡ ended_by (length (h.found ++ last_lexemes e)) s e = last.1 ∙ ap (λ y. ended_by (length (h.found ++ last_lexemes e)) y e) stays in
    let all = at_end s room tokens' lexed h.found e h.has_found h.lexemes ends last.0 lexed-is in
    subst (λ t. AreTokensOf front.definition t 0 room tokens' lexed) h.text (subst (λ d. AreTokensOf d s.text 0 room tokens' lexed) h.definition all)

-- without a state 0 nothing is found
pub no_tokens : (s : Scanned) (room tokens : List Token) (lexed : Lexed) → IsAtFront s.definition s.text s → is_state s.definition 0 ≡ false → HasFinished s NoState room tokens 0 lexed →
    AreTokensOf s.definition s.text 0 room tokens lexed
no_tokens s room tokens lexed at z finish =
    let last = finish [] room (record { tokens-are = refl; count-is = refl }) in
    record {
      found = Error 0 0 None ∷ [];
      bounds = [];
      run = run_stateless s.definition s.text z;
      tokens-are = last.0 ∙ sym (filled_error [] room 0 0 None);
      lexed-is = last.1 ∙ ap (λ y. ended_by 0 y NoState) at ∙ ap (λ st. failed 0 0 (unwrap_or (top_state st) 0) None) (cond-false _ (0 ∷ []) [] z);
    }

-- ---- a scanner at the front has a state where the definition has state 0

some_map : {A : Type 0} (f : A → ℕ) (o : Option A) → is_some o ≡ is_some (option_map f o)
some_map f None = refl
some_map f (Some x) = refl

some_top : (b : Bool) → is_some (top_state (cond b (0 ∷ []) [])) ≡ b
some_top true = refl
some_top false = refl

pub initial_of : {A : Type 0} (f : A → ℕ) (s : Scanned) (o : Option A) → IsAtFront s.definition s.text s → option_map f o ≡ top_state s.stack → is_some o ≡ is_state s.definition 0
initial_of f s o at told = some_map f o ∙ ap is_some told ∙ ap (λ (y : Scanned). is_some (top_state y.stack)) at ∙ some_top (is_state s.definition 0)
