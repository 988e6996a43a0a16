use Rattle.std.proofs.Common.{◌≡◌, ◌+◌, ◌-◌, ◌<◌, ◌≤◌, drop, length, get_or, set, refl, sym, ap, ap₂, ◌∙◌, subst, inl, inr, arith}
use Rattle.std.proofs.lemmas.Bool.{cases_lt}
use Rattle.std.proofs.lemmas.List.{drop-set-add, drop-set-lt, length-drop, length-set}
use Rattle.lrlex_table.specs.Chain.{end_of, row_behind, GoesTo}
use Rattle.lrlex_table.specs.declared.marks.Mark.{Mark}
use Rattle.lrlex_table.proofs.ChainLemmas.{IsLane, ends_near, lane_kept, passes, on_way_first}
use Rattle.lrlex_table.proofs.chain.Chain.mark_both.Goals as goal

pub bytes-init : goal.bytes-init
bytes-init c =
    let self = c.args.self.now in
    let text = c.args.text.now in
    let half = c.args.half in
    let none : 0 ≡ half - half = omega arith in
    record {
      row = omega (arith, c.requires.row, self.bases.ok.0);
      count = omega arith;
      first = λ t l is. (λ k lt. absurd (omega arith), on_way_first t l self text c.args.from 0 c.args.begin (c.requires.begins t l is));
      other = omega (arith, c.requires.row_later, self.bases.ok.0);
      from_half = omega arith;
      others = omega arith;
      room = refl;
      second = λ t l is. subst (λ n. IsLane t l self text (c.args.from + c.args.apart) 0 (drop half c.args.marks.now) n 0 c.args.later) none
          (λ k lt. absurd (omega arith), on_way_first t l self text (c.args.from + c.args.apart) 0 c.args.later (c.requires.begins_later t l is));
      near = λ k lt. absurd (omega (arith, lt));
    }

pub bytes-preserved : goal.bytes-preserved
bytes-preserved c =
    let inv = c.bytes.invariant in
    let self = c.args.self.now in
    let text = c.args.text.now in
    let from = c.args.from in
    let half = c.args.half in
    let at = c.bytes.at in
    let later = from + c.args.apart in
    let count = c.bytes.count in
    let others = c.bytes.others in
    let own = others - half in
    let marks = c.bytes.marks in
    let row = c.bytes.row in
    let other = c.bytes.other in
    let to = c.next-behind.result in
    let after = c.next-after.result in
    let byte = get_or text (from + at) 0 in
    let also = get_or text (later + at) 0 in
    let here : Mark = record { row = row; end = at } in
    let there : Mark = record { row = other; end = at } in
    let one = set marks count here in
    let both = set one others there in
    let second = drop half marks in
    let inside : later + at < length text = omega (arith, c.requires.inside, c.bytes-test.true) in
    let long : length marks ≡ length c.args.marks.now = inv.room in
    let room : length both ≡ length c.args.marks.now = length-set one others there ∙ length-set marks count here ∙ long in
    let room_first : count < length marks = omega (arith, inv.count, long, c.requires.room_first, c.requires.room_second, c.bytes-test.true) in
    let room_second : own < length second = omega (arith, inv.others, inv.from_half, long, c.requires.room_second, c.bytes-test.true, length-drop half marks) in
    let written : set (set marks count c.new.result) others c.new-in-bytes.result ≡ both = ap₂ (λ (m : Mark) (n : Mark). set (set marks count m) others n) c.new.ensures c.new-in-bytes.ensures in
    let place : half + own ≡ others = omega (arith, inv.from_half) in
    let behind : drop half both ≡ set second own there =
    ap (λ i. drop half (set one i there)) (sym place) ∙ drop-set-add half one own there ∙ ap (λ xs. set xs own there) (drop-set-lt half marks count here (omega (arith, inv.count, c.requires.room_first, c.bytes-test.true))) in
    let next : others + c.begun-others.result - half ≡ own + c.begun-others.result = omega (arith, inv.from_half) in
    let is_row : row_behind self.cells.items self.columns.items row byte ≡ to =
    sym (c.next-behind.ensures.behind ∙ ap (λ xs. row_behind xs c.as_slice-columns.result.now row byte) c.as_slice-cells.ensures.value ∙ ap (λ xs. row_behind self.cells.items xs row byte) c.as_slice-columns.ensures.value) in
    let is_other : row_behind self.cells.items self.columns.items other also ≡ after =
    sym (c.next-after.ensures.behind ∙ ap (λ xs. row_behind xs c.as_slice-columns.result.now other also) c.as_slice-cells.ensures.value ∙ ap (λ xs. row_behind self.cells.items xs other also) c.as_slice-columns.ensures.value) in
    let few : c.begun-others.result ≤ 1 = elim (cases_lt after self.fresh) [
      | inl below ↦ omega (arith, c.begun-others.ensures.none below)
      | inr ge ↦ omega (arith, c.begun-others.ensures.one ge)
    ] in
    let more : count + c.begun-count.result ≤ at + 1 = elim (cases_lt to self.fresh) [
      | inl lt ↦ omega (arith, c.begun-count.ensures.none lt, inv.count)
      | inr ge ↦ omega (arith, c.begun-count.ensures.one ge, inv.count)
    ] in
    record {
      row = omega (arith, c.next-behind.ensures.row, c.len-height.ensures, self.bases.ok.0);
      count = more;
      first = λ t l is.
          let goes : GoesTo t l self row byte to = subst (GoesTo t l self row byte) is_row (is.1 row byte inv.row (omega (arith, c.type_inv.text (from + at)))) in
          subst (λ xs. IsLane t l self text from 0 xs (count + c.begun-count.result) (at + 1) to) (sym written)
          (lane_kept t l self text from 0 one (count + c.begun-count.result) (at + 1) to others there (omega (arith, more, inv.from_half, c.requires.room_first, c.bytes-test.true))
          (passes t l self text from 0 marks count at row to c.begun-count.result (inv.first t l is) (omega (arith, inside)) inv.row room_first goes c.begun-count.ensures.one c.begun-count.ensures.none));
      other = omega (arith, c.next-after.ensures.row, c.len-height.ensures, self.bases.ok.0);
      from_half = omega (arith, inv.from_half);
      others = omega (arith, few, inv.others);
      room = ap length written ∙ room;
      second = λ t l is.
          let goes : GoesTo t l self other also after = subst (GoesTo t l self other also) is_other (is.1 other also inv.other (omega (arith, c.type_inv.text (later + at)))) in
          subst (λ xs. IsLane t l self text later 0 xs (others + c.begun-others.result - half) (at + 1) after) (sym (ap (drop half) written ∙ behind))
          (subst (λ n. IsLane t l self text later 0 (set second own there) n (at + 1) after) (sym next)
          (passes t l self text later 0 second own at other after c.begun-others.result (inv.second t l is) inside inv.other room_second goes c.begun-others.ensures.one c.begun-others.ensures.none));
      near = λ k lt.
          subst (λ xs. end_of xs k ≤ at + 1) (sym (ap (drop half) written ∙ behind)) (ends_near second own at other c.begun-others.result inv.near room_second k (omega (arith, lt, next)) few);
    }

pub returns-clause-first : goal.returns-clause-first
returns-clause-first c t l is = (c.bytes.invariant.first t l is).0

pub returns-clause-second : goal.returns-clause-second
returns-clause-second c t l is = (c.bytes.invariant.second t l is).0
