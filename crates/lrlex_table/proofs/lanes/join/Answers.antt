use Rattle.std.proofs.Common.{◌≡◌, ◌+◌, ◌-◌, length, take, drop, ap, ◌∙◌, sym, refl, arith}
use Rattle.std.proofs.lemmas.List.{get_or-drop, length-drop, take_all}
use Rattle.lrlex_table.specs.Chain.{begin_of, later, no_mark}
use Rattle.lrlex_table.proofs.lanes.join.Goals as goal

pub returns-clause-joined : goal.returns-clause-joined
returns-clause-joined c =
    let inv = c.marks.invariant in
    let marks = c.args.marks.now in
    let half = c.args.half in
    let second : take (length marks - half) (drop half marks) ≡ drop half marks = take_all (length marks - half) (drop half marks) (omega (arith, length-drop half marks)) in
    record {
      kept = c.meeting-at.result.0;
      passed = c.meeting-at.result.1;
      taken = c.min-more.result;
      all = refl;
      of_first = c.meeting-at.ensures.first;
      of_second = omega (arith, c.meeting-at.ensures.second, c.min-more.ensures);
      meet = λ some. c.meeting-at.ensures.meet (omega (arith, some, c.min-more.ensures)) ∙ ap (λ xs. c.args.apart + begin_of 0 xs c.meeting-at.result.1) second;
      before = inv.before;
      behind = λ k lt. inv.behind k (omega (arith, lt, c.marks-test.false)) ∙ ap (later c.args.apart) (sym (get_or-drop half marks (c.meeting-at.result.1 + k) no_mark));
    }
