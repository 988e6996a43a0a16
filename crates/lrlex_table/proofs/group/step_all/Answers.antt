use Rattle.std.proofs.Common.{◌≡◌, ◌≢◌, ◌∷◌, ◌++◌, [], Some, slice_index_or, ℕ, sym, ap, ◌∙◌, subst}
use Rattle.std.proofs.lemmas.List.{take_all}
use Rattle.std.proofs.lemmas.List.Elements.{All-nil, All-push}
use Rattle.lrlex_table.specs.Table.{next_of, next_rows}
use Rattle.lrlex_table.specs.Group.{table_in, nexts_of, start_of, nexts_in, start_in, step_row, step_all, ArePastStart}
use Rattle.lrlex_table.proofs.GroupLemmas.{step_dead, step_live, step_more_dead, step_more_live}
use Rattle.lrlex_table.proofs.group.step_all.Goals as goal
use Rattle.lrlex_table.proofs.group.step_all.Goals.{then-row-eq0, else-row-eq0, then-to-ne0+in_ok-push, else-to-ne0}

pub live_rows-init : goal.live_rows-init
live_rows-init c = (
  c.clear.ensures.items,
  subst (ArePastStart (start_in c.args.cache.now c.args.places.now)) (sym c.clear.ensures.items)
      (All-nil (λ (l : ℕ × ℕ). l.1 ≢ start_in c.args.cache.now c.args.places.now l.0)),
)

pub live_rows-preserved : goal.live_rows-preserved
live_rows-preserved c =
    let na = nexts_in c.args.cache.now c.args.places.now in
    let sa = start_in c.args.cache.now c.args.places.now in
    let live_rows = c.args.live_rows.now in
    let byte = c.args.byte in
    let l = slice_index_or live_rows c.live_rows.at (0, 0) in
    let table = c.in-Some.table.now in
    let there : table_in c.args.cache.now c.args.places.now l.0 ≡ Some table = c.in-Some.ensures in
    let nexts : na l.0 ≡ next_rows table = ap nexts_of there in
    let start : sa l.0 ≡ table.start = ap start_of there in
    let goes : step_row (na l.0) l.1 (Some byte) ≡ c.if-row-eq0.to = elim c.if-row-eq0.branch [
      | then-row-eq0 w ↦ step_dead (na l.0) l.1 (Some byte) w.if-row-eq0.true ∙ sym w.to-is
      | else-row-eq0 w ↦
          step_live (na l.0) l.1 c.if-row-eq0.to (Some byte) w.if-row-eq0.false
          (w.to-is ∙ w.next_of-to.ensures ∙ sym (ap (λ xs. next_of xs l.1 (Some byte)) nexts))
    ] in
    elim c.if-to-ne0.branch [
      | then-to-ne0+in_ok-push w ↦
          let to = c.if-row-eq0.to in
          let items = ap (λ v. v.items) w.next-is ∙ w.in_ok-push.ensures.items in (
            items ∙ ap (λ xs. xs ++ (l.0, to) ∷ []) c.live_rows.invariant.0
                ∙ sym (step_more_live na live_rows c.live_rows.at byte to (0, 0) c.live_rows-test.true goes w.if-to-ne0.true),
            subst (ArePastStart sa) (sym items)
                (All-push (λ (x : ℕ × ℕ). x.1 ≢ sa x.0) c.live_rows.next.items (l.0, to) c.live_rows.invariant.1 (λ e. c.if-to-table.false (e ∙ start))),
          )
      | else-to-ne0 w ↦
          let items = ap (λ v. v.items) w.next-is in (
            items ∙ c.live_rows.invariant.0
                ∙ sym (step_more_dead na live_rows c.live_rows.at byte (0, 0) c.live_rows-test.true (goes ∙ w.if-to-ne0.false)),
            subst (ArePastStart sa) (sym items) c.live_rows.invariant.1,
          )
    ]

pub returns-clause-next : goal.returns-clause-next
returns-clause-next c done =
    c.live_rows.invariant.0
    ∙ ap (λ xs. step_all (nexts_in c.args.cache.now c.args.places.now) xs c.args.byte) (take_all c.live_rows.at c.args.live_rows.now c.live_rows-test.false)

pub returns-clause-past : goal.returns-clause-past
returns-clause-past c done = c.live_rows.invariant.1
