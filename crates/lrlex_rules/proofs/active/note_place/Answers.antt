use Rattle.std.proofs.Common.{◌≡◌, ◌≢◌, ℕ, ◌+◌, ◌<◌, ◌++◌, ◌∷◌, ◌==◌, [], cond, length, get_or, map, set, take, sym, ap, ◌∙◌, inl, inr, arith}
use Rattle.std.proofs.lemmas.Bool.{cases_eq}
use Rattle.std.proofs.lemmas.List.{length-set}
use Rattle.std.specs.List.{list_any}
use Rattle.lrlex_rules.specs.RuleLists.{list_in}
use Rattle.lrlex_rules.proofs.ListLemmas.{list_in_at, list_in_same, list_in_other}
use Rattle.lrlex_rules.proofs.NotedLemmas.{id_here, id_other, put_once}
use Rattle.lrlex_rules.proofs.active.note_place.Goals as goal
use Rattle.lrlex_rules.proofs.active.note_place.Goals.{then-id-lists+in_ok-push_once, else-id-lists}

pub ids-preserved : goal.ids-preserved
ids-preserved c =
    let lists = c.ids.lists in
    let ids = c.args.ids.now in
    let k = c.ids.id-index in
    let id = get_or ids k 0 in
    let place = c.args.place in
    let old = list_in (map (λ v. v.items) c.args.lists.now) in
    let now = list_in (map (λ v. v.items) lists) in
    let among = λ (i n : ℕ). list_any (λ s. s == i) (take n ids) in
    let elsewhere : (i : ℕ) → i < length c.args.lists.now → i ≢ id → now i ≡ old i ++ cond (among i (k + 1)) (place ∷ []) [] = λ i lt ne.
    c.ids.invariant.noted i lt ∙ ap (λ b. old i ++ cond b (place ∷ []) []) (sym (id_other ids k i c.ids-test.true (λ e. ne (sym e)))) in
    elim c.if-id-lists.branch [
      | then-id-lists+in_ok-push_once w ↦
          let v = w.push_once.new.places in
          let held = list_in_at lists id w.index-lists-id.result w.if-id-lists.true in
          let made : (i : ℕ) → i ≡ id → i < length c.args.lists.now → v.items ≡ old i ++ cond (among i (k + 1)) (place ∷ []) [] = λ i e lt.
          put_once (old i) (now i) (get_or lists id w.index-lists-id.result).items v.items place (among i k) (ap now e ∙ held) (c.requires i)
          (c.ids.invariant.noted i lt) w.in_ok-push_once.ensures.there w.in_ok-push_once.ensures.put
          ∙ ap (λ b. old i ++ cond b (place ∷ []) []) (sym (id_here ids k i c.ids-test.true (sym e))) in
          record {
            kept = ap length w.lists-is ∙ length-set lists id v ∙ c.ids.invariant.kept;
            noted = λ i lt. ap (λ xs. list_in (map (λ v. v.items) xs) i) w.lists-is ∙ elim (cases_eq i id) [
              | inl e ↦ ap (list_in (map (λ v. v.items) (set lists id v))) e ∙ list_in_same lists id v w.if-id-lists.true ∙ made i e lt
              | inr ne ↦ list_in_other lists id i v ne ∙ elsewhere i lt ne
            ];
          }
      | else-id-lists w ↦
          record {
            kept = ap length w.lists-is ∙ c.ids.invariant.kept;
            noted = λ i lt. ap (λ xs. list_in (map (λ v. v.items) xs) i) w.lists-is ∙ elsewhere i lt (λ e. absurd (omega (arith, e, w.if-id-lists.false, lt, c.ids.invariant.kept)));
          }
    ]
