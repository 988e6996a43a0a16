-- The tiles that a scanner gives are those of its text.
use Rattle.std.proofs.Common.{◌≡◌, ℕ, ◌+◌, ◌<◌, arith, true, List, [], ◌∷◌, ◌++◌, length, drop, sym, ap, ◌∙◌, subst, true≢false, append_assoc, append-nil}
use Rattle.std.proofs.lemmas.Bool.{cond-true}
use Rattle.std.proofs.lemmas.List.{drop-drop, length-drop}
use Rattle.lrlex_base.specs.Spans.{Span, span_end}
use Rattle.lrlex_rules.specs.Definition.{Definition}
use Rattle.lrlex_rules.specs.RuleParts.{state_number}
use Rattle.lrlex_boundaries.specs.Boundaries.{Boundary}
use Rattle.lrlex_rules.specs.Active.{is_state, lacks_id, rule_at}
use Rattle.lrlex.specs.Reach.{IsLexed}
use Rattle.lrlex.specs.Scanner.{AreScanned, EndsBy, IsTileAt, Scanned, at_front, left, past}
use Rattle.lrlex_rules.specs.Tiling.{Item, Tile, End, Done, NoMatch, IsEnd, IsTaken, IsTiling, items, stack_after, stack_past, top}
use Rattle.lrlex_rules.specs.Tiling.{NoId as LacksId, NoTarget as LacksTarget}
use Rattle.lrlex.specs.declared.lexing.scanner.ScannedTile.{ScannedTile}
use Rattle.lrlex_rules.proofs.TilingLemmas.{Wins-le}
use Rattle.lrlex.specs.declared.lexing.scanner.ScanEnd.{ScanEnd}
use Rattle.lrlex.specs.declared.lexing.scanner.ScanEnd.TheVariants.{NoId, NoState}
use Rattle.lrlex.specs.declared.lexing.scanner.ScanEnd.TheVariants.{Done as IsDone, NoMatch as HasNoMatch, NoTarget as HasNoTarget}

pub scanned_front : (d : Definition) (text : List ℕ) (most : ℕ) → is_state d 0 ≡ true → AreScanned [] (at_front d text most)
scanned_front d text most z = record { goes_on = λ us e h. subst (λ st. IsTiling d text st us e) (cond-true _ (0 ∷ []) [] z) h }

pub scanned_more : {S : Type 0} (number : S → ℕ) (ts : List Tile) (s : Scanned) (x : ScannedTile S) (t : Tile) → IsTileAt number s.definition s.place x t →
    IsTaken s.definition (left s) s.stack t → AreScanned ts s → AreScanned (ts ++ t ∷ []) (past s x)
scanned_more number ts s x t at taken all = record {
  goes_on = λ us e h.
      let d = s.definition in
      let place : span_end x.span ≡ s.place + t.len = ap (λ (sp : Span). sp.end) at.bytes in
      let target : stack_after s.stack (rule_at d x.rule).target ≡ stack_past d s.stack t = ap (λ k. stack_after s.stack (rule_at d k).target) at.rule in
      let here = subst (λ p. IsTiling d (drop p s.text) (stack_after s.stack (rule_at d x.rule).target) us e) place h in
      let rest = subst (λ st. IsTiling d (drop (s.place + t.len) s.text) st us e) target here in
      let next = all.goes_on (t ∷ us) e (taken, subst (λ w. IsTiling d w (stack_past d s.stack t) us e) (sym (drop-drop t.len s.place s.text)) rest) in
      subst (λ vs. IsTiling d s.text (0 ∷ []) vs e) (sym (append_assoc ts (t ∷ []) us)) next;
}

ends : {S : Type 0} (number : S → ℕ) (s : Scanned) (e : ScanEnd S) → is_state s.definition 0 ≡ true → EndsBy number s e → (x : End) × IsEnd s.definition (left s) s.stack x
ends number s IsDone z h = (Done, h)
ends number s (HasNoMatch q) z h = (NoMatch (state_number q), h)
ends number s (NoId k) z h = (LacksId, (h.0, h.2, subst (λ i. lacks_id (rule_at s.definition i) ≡ true) (sym h.1) h.3))
ends number s (HasNoTarget x) z h = (LacksTarget h.0, h.2)
ends number s NoState z h = absurd (true≢false (sym z ∙ h))

pub scanned_all : {S : Type 0} (number : S → ℕ) (ts : List Tile) (s : Scanned) (e : ScanEnd S) → is_state s.definition 0 ≡ true → EndsBy number s e → AreScanned ts s →
    (x : End) × IsTiling s.definition s.text (0 ∷ []) ts x
scanned_all number ts s e z h all =
    let end = ends number s e z h in
    (end.0, subst (λ vs. IsTiling s.definition s.text (0 ∷ []) vs end.0) (append-nil ts) (all.goes_on [] end.0 end.1))

-- what a run of the text gives is what its only tiling gives
pub run_of_scanned : (d : Definition) (text : List ℕ) (found : List Item) (bounds : List Boundary) → IsLexed d text found bounds → (ts : List Tile) (e : End) →
    IsTiling d text (0 ∷ []) ts e → found ≡ items d 0 ts e
run_of_scanned d text found bounds h ts e tiling =
    let same = h.only ts e tiling in
    h.items_are ∙ ap (λ us. items d 0 us h.end) (sym same.0) ∙ ap (items d 0 ts) (sym same.1)

-- past a tile less of the text is left
pub less_left : {S : Type 0} (number : S → ℕ) (s : Scanned) (x : ScannedTile S) (t : Tile) → IsTileAt number s.definition s.place x t → IsTaken s.definition (left s) s.stack t →
    length (left (past s x)) < length (left s)
less_left number s x t at taken =
    let place : span_end x.span ≡ s.place + t.len = ap (λ (sp : Span). sp.end) at.bytes in
    let most = Wins-le s.definition (top s.stack) (left s) t.rule t.len taken.wins in
    omega (arith, place, most, taken.wins.some, length-drop s.place s.text, length-drop (span_end x.span) s.text)
