-- What a scanner finds on its way, and at its end, is what a run finds.
use Rattle.std.proofs.Common.{◌≡◌, ℕ, ◌+◌, ◌-◌, ◌<◌, true, false, List, [], ◌∷◌, ◌++◌, All, length, map, Some, None, unwrap_or, refl, sym, ap, ap₂, ◌∙◌, arith, append_assoc, length-append}
use Rattle.std.proofs.lemmas.Bool.{cond-true}
use Rattle.std.proofs.lemmas.List.{get_or_at, map_push}
use Rattle.std.proofs.lemmas.List.Elements.{All-cons, All-nil}
use Rattle.lrlex_base.specs.Spans.{Span, span_end}
use Rattle.lrlex_boundaries.specs.Boundaries.{Boundary, boundary_at, last_entries, no_boundary, place_and_stack}
use Rattle.lrlex_boundaries.specs.Entries.{AreEntries, plain}
use Rattle.lrlex_rules.specs.Definition.{Definition}
use Rattle.lrlex_rules.specs.Active.{is_state, rule_at}
use Rattle.lrlex.specs.LexRun.{end_of, end_state_of}
use Rattle.lrlex.specs.Reach.{IsLexed, IsRun}
use Rattle.lrlex.specs.Scanner.{AreScanned, IsTileAt, Scanned, at_front, left, past, top_state}
use Rattle.lrlex_rules.specs.Tiling.{Item, Error, Tile, End, IsEnd, IsTaken, tile_items, end_items, items, boundaries, stack_after, stack_past, top}
use Rattle.lrlex.specs.declared.lexing.scanner.ScannedTile.{ScannedTile}
use Rattle.lrlex.proofs.EntryLemmas.{are-entries_of, entries_of, plain-entries_of}
use Rattle.lrlex.proofs.ReachLemmas.{run_of, stateless_of}
use Rattle.lrlex.proofs.ScannerLemmas.{scanned_front, scanned_more}
use Rattle.lrlex_rules.proofs.TilingLemmas.{only_one}

-- ---- on its way

-- From the front of its text tiles led a scanner here, and gave these items.
pub record HasFound (found : List Item) (s : Scanned) : Type 0 where
  pub cut : List Tile
  pub before : List (ℕ × List ℕ)
  pub scanned : AreScanned cut s
  pub gives : (us : List Tile) (e : End) → items s.definition 0 (cut ++ us) e ≡ found ++ items s.definition s.place us e
  pub enters : (us : List Tile) → boundaries s.definition 0 (0 ∷ []) (cut ++ us) ≡ before ++ boundaries s.definition s.place s.stack us
  pub initial : is_state s.definition 0 ≡ true

pub found_front : (d : Definition) (text : List ℕ) (most : ℕ) → is_state d 0 ≡ true → HasFound [] (at_front d text most)
found_front d text most z =
    let stack : (at_front d text most).stack ≡ 0 ∷ [] = cond-true _ (0 ∷ []) [] z in
    record {
      cut = [];
      before = [];
      scanned = scanned_front d text most z;
      gives = λ us e. refl;
      enters = λ us. ap (λ st. boundaries d 0 st us) (sym stack);
      initial = z;
    }

-- one more tile
pub found_more : {S : Type 0} (number : S → ℕ) (found : List Item) (s : Scanned) (x : ScannedTile S) (t : Tile) → IsTileAt number s.definition s.place x t →
    IsTaken s.definition (left s) s.stack t → HasFound found s → HasFound (found ++ tile_items s.definition s.place t) (past s x)
found_more number found s x t at taken h =
    let d = s.definition in
    let place : span_end x.span ≡ s.place + t.len = ap (λ (sp : Span). sp.end) at.bytes in
    let target : stack_after s.stack (rule_at d x.rule).target ≡ stack_past d s.stack t = ap (λ k. stack_after s.stack (rule_at d k).target) at.rule in
    record {
      cut = h.cut ++ t ∷ [];
      before = h.before ++ (s.place, s.stack) ∷ [];
      scanned = scanned_more number h.cut s x t at taken h.scanned;
      gives = λ us e.
          ap (λ vs. items d 0 vs e) (append_assoc h.cut (t ∷ []) us) ∙ h.gives (t ∷ us) e
          ∙ sym (append_assoc found (tile_items d s.place t) (items d (s.place + t.len) us e))
          ∙ ap (λ p. (found ++ tile_items d s.place t) ++ items d p us e) (sym place);
      enters = λ us.
          ap (boundaries d 0 (0 ∷ [])) (append_assoc h.cut (t ∷ []) us) ∙ h.enters (t ∷ us)
          ∙ sym (append_assoc h.before ((s.place, s.stack) ∷ []) (boundaries d (s.place + t.len) (stack_past d s.stack t) us))
          ∙ ap₂ (λ p st. (h.before ++ (s.place, s.stack) ∷ []) ++ boundaries d p st us) (sym place) (sym target);
      initial = h.initial;
    }

-- ---- at its end

-- a boundary at this place with this stack
as_boundary : ℕ × List ℕ → Boundary
as_boundary b = record { place = b.0; entries = entries_of b.1 }

same_boundaries : (bs : List (ℕ × List ℕ)) → map place_and_stack (map as_boundary bs) ≡ bs
unfolding as_boundary
same_boundaries [] = refl
same_boundaries (b ∷ bs) = ap₂ (λ (s : List ℕ) (cs : List (ℕ × List ℕ)). (b.0, s) ∷ cs) (plain-entries_of b.1) (same_boundaries bs)

all_entries : (bs : List (ℕ × List ℕ)) → All (λ (m : Boundary). AreEntries m.entries) (map as_boundary bs)
unfolding as_boundary
all_entries [] = All-nil (λ (m : Boundary). AreEntries m.entries)
all_entries (b ∷ bs) = All-cons (λ (m : Boundary). AreEntries m.entries) (as_boundary b) (map as_boundary bs) (are-entries_of b.1) (all_entries bs)

last_boundary : (ms : List Boundary) (m : Boundary) → boundary_at (ms ++ m ∷ []) (length (ms ++ m ∷ []) - 1) ≡ m
last_boundary ms m =
    let n : length ms ≡ length (ms ++ m ∷ []) - 1 = omega (arith, length-append ms (m ∷ [])) in
    ap (boundary_at (ms ++ m ∷ [])) (sym n) ∙ get_or_at ms m [] no_boundary (length ms) refl

last_state : (ms : List Boundary) (m : Boundary) → end_state_of (ms ++ m ∷ []) ≡ Some (top (plain (last_entries (ms ++ m ∷ []))))
last_state [] m = refl
last_state (x ∷ ms) m = refl

-- These items are those of the run of a scanner's text, which ends where the scanner stands.
pub record IsRunOfScanner (found : List Item) (s : Scanned) : Type 0 where
  pub bounds : List Boundary
  pub run : IsRun s.definition s.text found bounds
  pub end : end_of bounds ≡ s.place
  pub state : end_state_of bounds ≡ Some (top s.stack)

pub run_found : (found : List Item) (s : Scanned) (e : End) → HasFound found s → IsEnd s.definition (left s) s.stack e → IsRunOfScanner (found ++ end_items s.definition s.place e) s
unfolding as_boundary
run_found found s e h is =
    let d = s.definition in
    let all = found ++ end_items d s.place e in
    let entered = h.before ++ (s.place, s.stack) ∷ [] in
    let bounds = map as_boundary entered in
    let tiling = h.scanned.goes_on [] e is in
    let lexed : IsLexed d s.text all bounds = record {
      cut = h.cut ++ [];
      end = e;
      tiling = tiling;
      only = only_one d s.text (h.cut ++ []) e tiling;
      items_are = sym (h.gives [] e);
      boundaries_are = same_boundaries entered ∙ sym (h.enters []);
      entries = all_entries entered;
    } in
    let last : bounds ≡ map as_boundary h.before ++ as_boundary (s.place, s.stack) ∷ [] = map_push as_boundary h.before (s.place, s.stack) in
    record {
      bounds = bounds;
      run = run_of d s.text all bounds h.initial lexed;
      end = ap end_of last ∙ ap (λ (m : Boundary). m.place) (last_boundary (map as_boundary h.before) (as_boundary (s.place, s.stack)));
      state = ap end_state_of last ∙ last_state (map as_boundary h.before) (as_boundary (s.place, s.stack))
          ∙ ap (λ (m : Boundary). Some (top (plain m.entries))) (last_boundary (map as_boundary h.before) (as_boundary (s.place, s.stack)))
          ∙ ap (λ st. Some (top st)) (plain-entries_of s.stack);
    }

-- without a state 0
pub run_stateless : (d : Definition) (text : List ℕ) → is_state d 0 ≡ false → IsRun d text (Error 0 0 None ∷ []) []
run_stateless d text z = stateless_of d text (Error 0 0 None ∷ []) [] z refl refl

-- ---- the state on top

pub on_top : (stack : List ℕ) (q : ℕ) → 0 < length stack → q ≡ top stack → Some q ≡ top_state stack
on_top [] q some is = absurd (omega (arith, some))
on_top (x ∷ xs) q some is = ap Some is

-- where there is none, it counts as state 0
pub top_or_zero : (stack : List ℕ) → unwrap_or (top_state stack) 0 ≡ top stack
top_or_zero [] = refl
top_or_zero (x ∷ xs) = refl
