use Rattle.std.proofs.Common.{◌≡◌, ◌<◌, Some, sym, ap, ◌∙◌, subst, arith, rules}
use Rattle.std.proofs.lemmas.List.{length-set}
use Rattle.lrlex_table.specs.Determinizer.{lists_of, StepsOn, IsFilling}
use Rattle.lrlex_table.proofs.DeterminizerLemmas.{filling_kept, filling_cell, classes_set, classes_grow}
use Rattle.lrlex_table.proofs.determinize.Determinizer.cell_for.Goals as goal

pub returns-in-Some-clause-cell : goal.returns-in-Some-clause-cell
returns-in-Some-clause-cell c =
    c.requires.filling.classes c.args.byte c.in-Some.to c.ranges.byte.fits c.in-Some.is

pub returns-clause-filling : goal.returns-clause-filling
returns-clause-filling c =
    let dfa = c.args.dfa.now in
    let old = c.args.self.now in
    let new = c.intern.new.self in
    let row = c.args.row in
    let byte = c.args.byte in
    let threads = c.args.threads.now in
    let matched = c.args.matched in
    let v = c.in-Some-found.to in
    let to = c.step.new.scratch.next.items in
    let has = rw (c.in-Some-found.is, c.deref.ensures.value) at c.in_ok-found.ensures.row in
    let states = rw c.in-Some-2.is at c.in_ok-now.ensures.states in
    let now : StepsOn dfa.nfa row (Some byte) threads to c.in-Some-2.now = rw c.in-Some-2.is at c.in_ok-now.ensures.steps in
    let same : c.in-Some-2.now ≡ matched = search rules in
    let steps = subst (StepsOn dfa.nfa row (Some byte) threads to) same now in
    let before = c.requires.filling in
    let kept = filling_kept dfa.nfa (lists_of old.rows) (lists_of new.rows) old.next.items old.wins.items row byte threads to matched v before.filling states has in
    let cell = filling_cell dfa.nfa (lists_of old.rows) (lists_of new.rows) old.next.items old.wins.items row byte threads to matched v kept has steps in
    let small : byte < 256 = c.ranges.byte.fits in
    record {
      filling = subst (λ ns. IsFilling dfa.nfa (lists_of new.rows) ns new.wins.items row byte threads matched) (sym (ap (λ x. x.items) c.intern.ensures.next))
          (subst (λ ws. IsFilling dfa.nfa (lists_of new.rows) old.next.items ws row byte threads matched) (sym (ap (λ x. x.items) c.intern.ensures.wins)) kept);
      classes = classes_set dfa (lists_of new.rows) matched row c.args.led.now byte v small (omega (arith, dfa.counted byte small, dfa.few, before.wide))
          (classes_grow dfa (lists_of old.rows) (lists_of new.rows) matched row c.args.led.now to v before.filling.within has before.classes) cell;
      wide = length-set _ _ _ ∙ before.wide;
    }
