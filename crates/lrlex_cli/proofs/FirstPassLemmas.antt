-- What the first pass over a text finds on its way.
use Rattle.std.proofs.Common.{◌≡◌, ℕ, ◌+◌, ◌-◌, ◌<◌, ◌≤◌, true, false, true≢false, List, [], ◌∷◌, ◌++◌, length, Option, Some, None, option_map, is_some, refl, sym, ap, ap₂, ◌∙◌, subst, arith, append_assoc, append-nil, length-append}
use Rattle.std.proofs.lemmas.Bool.{cond-true}
use Rattle.std.specs.List.{list_any}
use Rattle.lrlex_base.specs.Spans.{Span, span_end, span_start}
use Rattle.lrlex_rules.specs.Definition.{Definition}
use Rattle.lrlex_rules.specs.RuleParts.{state_number}
use Rattle.lrlex.specs.Active.{is_state, lacks_id, lexeme_id, rule_at}
use Rattle.lrlex.specs.ItemLaws.{is_error}
use Rattle.lrlex.specs.Reach.{IsRun}
use Rattle.lrlex.specs.Scanner.{EndsBy, IsAtFront, IsStep, IsTileAt, Scanned, at_front, left, past}
use Rattle.lrlex.specs.Tiling.{Item, Error, Tile, End, IsEnd, IsTiling, end_items, items, lexeme_of, lexemes, tile_items}
use Rattle.lrlex.specs.Tiling.{Done as Whole, NoMatch as Stuck, NoId as LacksId, NoTarget as LacksTarget}
use Rattle.lrlex.specs.declared.lexing.scanner.ScannedTile.{ScannedTile}
use Rattle.lrlex.specs.declared.lexing.scanner.ScanEnd.{ScanEnd}
use Rattle.lrlex.specs.declared.lexing.scanner.ScanEnd.TheVariants.{Done, NoMatch, NoId, NoTarget, NoState}
use Rattle.lrlex.specs.declared.lexing.scanner.Step.TheVariants.{Tile as Found}
use Rattle.lrlex.proofs.ScannedRuns.{HasFound, found_front, found_more, run_found}
use Rattle.lrlex.proofs.ScannerLemmas.{less_left}
use Rattle.lrlex_cli.specs.Scanning.{IsErrorAt, IsFirstPass, error_place, last_lexeme, last_tile, lexeme_by}
use Rattle.lrlex_cli.specs.declared.scanning.FirstPass.{FirstPass}

-- ---- lexemes

-- the lexemes of tiles are their items where lexing comes to the text's end
items_whole : (d : Definition) (place : ℕ) (ts : List Tile) → items d place ts Whole ≡ lexemes d place ts
items_whole d place [] = refl
items_whole d place (t ∷ ts) = ap (λ xs. tile_items d place t ++ xs) (items_whole d (place + t.len) ts)

-- no error is among them
lexeme_is_none : (o : Option ℕ) (start len : ℕ) → list_any is_error (lexeme_of o start len) ≡ false
lexeme_is_none None start len = refl
lexeme_is_none (Some id) start len = refl

error_behind : (o : Option ℕ) (start len : ℕ) (xs : List Item) → list_any is_error (lexeme_of o start len ++ xs) ≡ list_any is_error xs
error_behind None start len xs = refl
error_behind (Some id) start len xs = refl

error_past : (d : Definition) (place : ℕ) (ts : List Tile) (xs : List Item) → list_any is_error (lexemes d place ts ++ xs) ≡ list_any is_error xs
error_past d place [] xs = refl
error_past d place (t ∷ ts) xs =
    ap (list_any is_error) (append_assoc (tile_items d place t) (lexemes d (place + t.len) ts) xs)
    ∙ error_behind (lexeme_id (rule_at d t.rule)) place t.len (lexemes d (place + t.len) ts ++ xs) ∙ error_past d (place + t.len) ts xs

one_at_most : (o : Option ℕ) (start len : ℕ) → length (lexeme_of o start len) ≤ 1
one_at_most None start len = omega arith
one_at_most (Some id) start len = omega arith

module _ {S : Type 0} (number : S → ℕ) where
  -- that of a tile
  pub tile_lexeme : (d : Definition) (place : ℕ) (x : ScannedTile S) (t : Tile) → IsTileAt number d place x t → lexeme_by number x ≡ tile_items d place t
  tile_lexeme d place x t at =
      let start : span_start x.span ≡ place = ap (λ (sp : Span). sp.start) at.bytes in
      let end : span_end x.span ≡ place + t.len = ap (λ (sp : Span). sp.end) at.bytes in
      let len : span_end x.span - span_start x.span ≡ t.len = omega arith in
      ap (λ o. lexeme_of o (span_start x.span) (span_end x.span - span_start x.span)) at.id
      ∙ ap₂ (λ p n. lexeme_of (lexeme_id (rule_at d t.rule)) p n) start len

  -- an error comes with each end but that of the text
  error_at_end : (last : Option (ScannedTile S)) (error : Option ℕ) (xs : List Item) → IsErrorAt error xs → list_any is_error (last_lexeme number last ++ xs) ≡ is_some error
  error_at_end None None xs h = ap (list_any is_error) h
  error_at_end None (Some place) xs h = ap (list_any is_error) h.1
  error_at_end (Some x) None xs h =
      error_behind (option_map number x.id) (span_start x.span) (span_end x.span - span_start x.span) xs ∙ ap (list_any is_error) h
  error_at_end (Some x) (Some place) xs h =
      error_behind (option_map number x.id) (span_start x.span) (span_end x.span - span_start x.span) xs ∙ ap (list_any is_error) h.1

-- ---- the first pass

-- From the front of its text a scanner found so many lexemes.
pub record IsSoFar (front s : Scanned) (count : ℕ) : Type 0 where
  pub found : List Item
  pub has_found : HasFound found s
  pub counted : count ≡ length found
  pub few : count ≤ s.place
  pub definition : s.definition ≡ front.definition
  pub text : s.text ≡ front.text

pub none_so_far : (s : Scanned) → IsAtFront s.definition s.text s → is_state s.definition 0 ≡ true → IsSoFar s s 0
none_so_far s at z = record {
  found = [];
  has_found = subst (λ x. HasFound [] x) (sym at) (found_front s.definition s.text s.most_cells z);
  counted = refl;
  few = omega arith;
  definition = refl;
  text = refl;
}

module _ {S : Type 0} (number : S → ℕ) where
  -- so many that one more fits
  pub few_before : (front s : Scanned) (count : ℕ) (x : ScannedTile S) → IsStep number s (Found x) → IsSoFar front s count → count + length (lexeme_by number x) ≤ span_end x.span
  few_before front s count x step h =
      let end : span_end x.span ≡ s.place + step.0.len = ap (λ (sp : Span). sp.end) step.1.bytes in
      omega (arith, h.few, end, step.2.wins.some, one_at_most (option_map number x.id) (span_start x.span) (span_end x.span - span_start x.span))

  pub more_so_far : (front s z : Scanned) (count more : ℕ) (x : ScannedTile S) → z ≡ past s x → more ≡ length (lexeme_by number x) → IsStep number s (Found x) → IsSoFar front s count →
      IsSoFar front z (count + more)
  more_so_far front s z count more x moved one step h =
      let few : count + more ≤ span_end x.span = omega (arith, one, few_before front s count x step h) in
      let is : count + more ≡ length (h.found ++ lexeme_by number x) = omega (arith, one, h.counted, length-append h.found (lexeme_by number x)) in
      subst (λ y. IsSoFar front y (count + more)) (sym moved) (record {
        found = h.found ++ lexeme_by number x;
        has_found = subst (λ ys. HasFound (h.found ++ ys) (past s x)) (sym (tile_lexeme number s.definition s.place x step.0 step.1)) (found_more number h.found s x step.0 step.1 step.2 h.has_found);
        counted = is;
        few = few;
        definition = h.definition;
        text = h.text;
      })

  pub less_so_far : (s z : Scanned) (x : ScannedTile S) → z ≡ past s x → IsStep number s (Found x) → length (left z) < length (left s)
  less_so_far s z x moved step = omega (arith, ap (λ y. length (left y)) moved, less_left number s x step.0 step.1 step.2)

  -- why a scanner gives no more tiles, as an end of a tiling with the same items
  record IsEndOf (s : Scanned) (e : ScanEnd S) : Type 0 where
    pub end : End
    pub is : IsEnd s.definition (left s) s.stack end
    pub error : List Item
    pub stop : IsErrorAt (error_place e s.place) error
    pub gives : end_items s.definition s.place end ≡ last_lexeme number (last_tile e) ++ error

  end_of : (s : Scanned) (e : ScanEnd S) → is_state s.definition 0 ≡ true → EndsBy number s e → IsEndOf s e
  end_of s Done z h = record { end = Whole; is = h; error = []; stop = refl; gives = refl }
  end_of s (NoMatch q) z h = record { end = Stuck (state_number q); is = h; error = Error s.place s.place (Some (state_number q)) ∷ []; stop = (Some (state_number q), refl); gives = refl }
  end_of s (NoId k) z h = record {
    end = LacksId;
    is = (h.0, h.2, subst (λ i. lacks_id (rule_at s.definition i) ≡ true) (sym h.1) h.3);
    error = Error s.place s.place None ∷ [];
    stop = (None, refl);
    gives = refl;
  }
  end_of s (NoTarget x) z h = record {
    end = LacksTarget h.0;
    is = h.2;
    error = Error s.place s.place None ∷ [];
    stop = (None, refl);
    gives = ap (λ xs. xs ++ Error s.place s.place None ∷ []) (sym (tile_lexeme number s.definition s.place x h.0 h.1));
  }
  end_of s NoState z h = absurd (true≢false (sym z ∙ h))

  module _ (s : Scanned) (e : ScanEnd S) (p : FirstPass S) (last : p.last ≡ last_tile e) (error : p.error ≡ error_place e s.place) (ends : EndsBy number s e) where
    passed : (found : List Item) → HasFound found s → p.lexemes ≡ length found → IsFirstPass number s.definition s.text p
    passed found h count =
        let d = s.definition in
        let x = end_of s e h.initial ends in
        let r = run_found found s x.end h x.is in
        let cut = h.cut ++ [] in
        let front : (at_front d s.text 0).stack ≡ 0 ∷ [] = cond-true _ (0 ∷ []) [] h.initial in
        let gives : found ≡ lexemes d 0 cut = sym (append-nil found) ∙ sym (h.gives [] Whole) ∙ items_whole d 0 cut in
        let same : end_items d s.place x.end ≡ last_lexeme number p.last ++ x.error = x.gives ∙ ap (λ o. last_lexeme number o ++ x.error) (sym last) in
        let stop : IsErrorAt p.error x.error = subst (λ o. IsErrorAt o x.error) (sym error) x.stop in
        record {
          found = found;
          error = x.error;
          bounds = r.bounds;
          finds = λ most. record { cut = cut; end = x.end; tiling = subst (λ st. IsTiling d s.text st cut x.end) (sym front) (h.scanned.goes_on [] x.end x.is); gives = gives };
          count = count;
          stop = stop;
          run = subst (λ xs. IsRun d s.text (found ++ xs) r.bounds) same r.run;
          stops = ap (λ xs. list_any is_error (xs ++ (last_lexeme number p.last ++ x.error))) gives ∙ error_past d 0 cut (last_lexeme number p.last ++ x.error)
              ∙ error_at_end number p.last p.error x.error stop;
        }

    pub first_pass_of : (front : Scanned) (count : ℕ) → p.lexemes ≡ count → IsSoFar front s count → IsFirstPass number front.definition front.text p
    first_pass_of front count counted h =
        subst (λ t. IsFirstPass number front.definition t p) h.text (subst (λ d. IsFirstPass number d s.text p) h.definition (passed h.found h.has_found (counted ∙ h.counted)))
