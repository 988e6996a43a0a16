use Rattle.std.proofs.Common.{◌≡◌, ◌+◌, ◌-◌, ◌<◌, false, length, drop, take, option_map, unwrap_or, vec_len, refl, sym, ap, ◌∙◌, subst, arith}
use Rattle.std.specs.HashMap.{hash_map_len}
use Rattle.std.proofs.lemmas.Bool.{true≢false}
use Rattle.std.proofs.lemmas.List.{length-drop, drop-drop}
use Rattle.std.proofs.lemmas.Option.{same_Some}
use Rattle.lrlex_table.specs.Table.{next_rows}
use Rattle.lrlex_table.specs.Reach.{row_after}
use Rattle.lrlex_table.specs.DeadEnds.{table_at, more_of, IsDue, IsVain}
use Rattle.lrlex_table.proofs.DeadEndLemmas.{row_more, vain_behind}
use Rattle.lrlex_table.proofs.CellLemmas.{row_within}
use Rattle.lrlex_table.proofs.KnownLemmas.{IsPaid, paid_first, paid_step, not_before}
use Rattle.lrlex_table.proofs.dead_ends.DeadEnds.keep.Goals as goal
use Rattle.lrlex_table.proofs.dead_ends.DeadEnds.keep.Goals.{then-is_due, else-is_due}

pub bytes-init : goal.bytes-init
bytes-init c = (
  refl,
  refl,
  refl,
  (refl, refl, refl),
  λ was. was,
  λ i from less inside due. c.requires.looked.unknown i less inside due,
  λ lists parts row here apart. refl,
  λ is. paid_first c.args.place c.args.walk.len (hash_map_len c.args.self.now.known),
  c.args.table.now.sound.1,
)

pub add-requires-clause-vain : goal.add-requires-clause-vain
add-requires-clause-vain c t at =
    let table = c.args.table.now in
    let hay = c.args.rest.now in
    let j = c.bytes.at in
    let row = c.bytes.row in
    let place = c.args.place in
    let more = c.args.walk.reach - j in
    let inv = c.bytes.invariant in
    let is : table ≡ t = same_Some _ _ (sym (ap (λ x. table_at x.now c.args.list c.args.part) inv.1 ∙ c.requires.table) ∙ at) in
    let past : c.args.walk.len < j = omega (arith, (c.is_due.ensures.0 c.if-is_due.true).1, c.saturating_sub.ensures) in
    let vain = vain_behind table hay c.args.walk.len c.args.walk.reach j row c.requires.vain past (omega (arith, c.if-at-looked.false, c.requires.before)) inv.0 in
    let same : drop j hay ≡ drop (place + j) c.bytes.self.text.now = ap (drop j) c.requires.rest ∙ drop-drop j place c.args.self.now.text.now ∙ ap (λ x. drop (place + j) x.now) (sym inv.2) in
    subst (λ x. IsVain x row (drop (place + j) c.bytes.self.text.now) more) is (subst (λ xs. IsVain table row xs more) same vain)

pub add-requires-clause-within : goal.add-requires-clause-within
add-requires-clause-within c =
    let table = c.args.table.now in
    let inv = c.bytes.invariant in record {
      below =
          let there = ap (λ x. table_at x.now c.args.list c.args.part) inv.1 ∙ c.requires.table in
          omega (arith, inv.8, table.wins.ok.0, ap (λ o. unwrap_or (option_map (λ t. vec_len t.wins) o) 0) there);
      inside =
          omega (arith, c.requires.inside, c.bytes-test.true, ap length c.requires.rest, length-drop c.args.place c.args.self.now.text.now, ap (λ x. length x.now) inv.2);
      due = (c.is_due.ensures.0 c.if-is_due.true).0;
    }

pub bytes-preserved : goal.bytes-preserved
bytes-preserved c =
    let inv = c.bytes.invariant in
    let old = c.args.self.now in
    let place = c.args.place in
    let at = c.bytes.at in
    let len = c.args.walk.len in
    let due = subst (λ past. IsDue (place + at) past c.is_due.result) c.saturating_sub.ensures c.is_due.ensures in (
      c.next_of-row.ensures ∙ row_more c.args.table.now c.args.rest.now at c.bytes.row inv.0 c.bytes-test.true,
      elim c.if-is_due.branch [
        | then-is_due w ↦ ap (λ s. s.lists) w.self-is ∙ w.add.ensures.lists ∙ inv.1
        | else-is_due w ↦ ap (λ s. s.lists) w.self-is ∙ inv.1
      ],
      elim c.if-is_due.branch [
        | then-is_due w ↦ ap (λ s. s.text) w.self-is ∙ w.add.ensures.text ∙ inv.2
        | else-is_due w ↦ ap (λ s. s.text) w.self-is ∙ inv.2
      ],
      elim c.if-is_due.branch [
        | then-is_due w ↦
            (ap (λ s. s.looked) w.self-is ∙ w.add.ensures.looked ∙ inv.3.0, ap (λ s. s.ahead) w.self-is ∙ w.add.ensures.ahead ∙ inv.3.1, ap (λ s. s.chain) w.self-is ∙ w.add.ensures.chain ∙ inv.3.2)
        | else-is_due w ↦ (ap (λ s. s.looked) w.self-is ∙ inv.3.0, ap (λ s. s.ahead) w.self-is ∙ inv.3.1, ap (λ s. s.chain) w.self-is ∙ inv.3.2)
      ],
      λ was. elim c.if-is_due.branch [
        | then-is_due w ↦ ap (λ s. s.forgot) w.self-is ∙ w.add.ensures.forgot (inv.4 was)
        | else-is_due w ↦ ap (λ s. s.forgot) w.self-is ∙ inv.4 was
      ],
      λ i from less inside far.
          let row = row_after (next_rows c.args.table.now) c.args.table.now.start (take i c.args.rest.now) in
          elim c.if-is_due.branch [
            | then-is_due w ↦
                ap (λ s. more_of s.known c.args.list c.args.part row (place + i)) w.self-is
                ∙ w.add.ensures.elsewhere c.args.list c.args.part row (place + i) (λ same. absurd (omega (arith, same))) ∙ inv.5 i (omega arith) less inside far
            | else-is_due w ↦ ap (λ s. more_of s.known c.args.list c.args.part row (place + i)) w.self-is ∙ inv.5 i (omega arith) less inside far
          ],
      λ lists parts row here apart. elim c.if-is_due.branch [
        | then-is_due w ↦
            ap (λ s. more_of s.known lists parts row here) w.self-is ∙ w.add.ensures.other_parts lists parts row here apart ∙ inv.6 lists parts row here apart
        | else-is_due w ↦ ap (λ s. more_of s.known lists parts row here) w.self-is ∙ inv.6 lists parts row here apart
      ],
      λ is. elim c.if-is_due.branch [
        | then-is_due w ↦
            let now : w.add.new.self.forgot ≡ false = sym (ap (λ s. s.forgot) w.self-is) ∙ is in
            subst (IsPaid place (at + 1) len (hash_map_len old.known)) (sym (ap (λ s. hash_map_len s.known) w.self-is))
            (paid_step place at len (hash_map_len old.known) (hash_map_len c.bytes.self.known) (hash_map_len w.add.new.self.known) c.is_due.result due (λ there. w.add.ensures.one_more now)
            (λ isnt. absurd (true≢false (sym w.if-is_due.true ∙ isnt))) (inv.7 (not_before _ _ w.add.ensures.forgot now)))
        | else-is_due w ↦
            subst (IsPaid place (at + 1) len (hash_map_len old.known)) (sym (ap (λ s. hash_map_len s.known) w.self-is))
            (paid_step place at len (hash_map_len old.known) (hash_map_len c.bytes.self.known) (hash_map_len c.bytes.self.known) c.is_due.result due
            (λ there. absurd (true≢false (sym there ∙ w.if-is_due.false))) (λ isnt. refl) (inv.7 (sym (ap (λ s. s.forgot) w.self-is) ∙ is)))
      ],
      row_within c.args.table.now _ _ c.next_of-row.ensures,
    )
