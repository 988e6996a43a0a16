use Rattle.std.proofs.Common.{◌≡◌, true, false, sym, ◌∙◌, subst, rules}
use Rattle.std.proofs.lemmas.Bool.{not-false}
use Rattle.std.proofs.lemmas.Slice.Eq.{bytes_eq-Decides}
use Rattle.lrlex_table.specs.Determinizer.{side_at, StepsFrom, StepsOn}
use Rattle.lrlex_table.proofs.SideLemmas.{steps_at_first, steps_on_edge, steps_alike}
use Rattle.lrlex_table.proofs.determinize.step.Goals.{then-row-eq-START-via-then-row-eq-START, then-row-eq-START-via-else-row-eq-START+then-not-dfa}
use Rattle.lrlex_table.proofs.determinize.step.Goals as goal

pub returns-then-row-eq-START-clause-steps : goal.returns-then-row-eq-START-clause-steps
returns-then-row-eq-START-clause-steps c =
    let dfa = c.args.dfa.now in
    let threads = c.args.threads.now in
    let next = c.step_from.new.scratch.next.items in
    let matched = c.in-Some.matched in
    let steps : StepsFrom dfa.nfa (side_at c.args.row false) c.args.byte threads next matched =
    subst (λ s. StepsFrom dfa.nfa s c.args.byte threads next matched) c.side_of.ensures (rw c.in-Some.is at c.in_ok-matched.ensures.steps) in
    elim c.then-row-eq-START.branch [
      | then-row-eq-START-via-then-row-eq-START w ↦
          subst (λ r. StepsOn dfa.nfa r c.args.byte threads next matched) (sym w.if-row-eq-START.true)
          (steps_at_first dfa.nfa c.args.byte threads next matched
          (subst (λ r. StepsFrom dfa.nfa (side_at r false) c.args.byte threads next matched) w.if-row-eq-START.true steps))
      | then-row-eq-START-via-else-row-eq-START+then-not-dfa w ↦
          steps_on_edge dfa c.args.row c.args.byte threads next matched c.requires.starts w.if-not-dfa.true steps
    ]

pub returns-clause-steps : goal.returns-clause-steps
returns-clause-steps c =
    let nfa = c.args.dfa.now.nfa in
    let row = c.args.row in
    let byte = c.args.byte in
    let threads = c.args.threads.now in
    let matched = c.in-Some.matched in
    let other = c.step_from.new.scratch.next.items in
    let after = c.step_from-2.new.scratch.next.items in
    let first : StepsFrom nfa (side_at row false) byte threads other matched =
    subst (λ s. StepsFrom nfa s byte threads other matched) c.side_of.ensures (rw c.in-Some.is at c.in_ok-matched.ensures.steps) in
    let second : StepsFrom nfa (side_at row true) byte threads after c.in-Some-2.after =
    subst (λ s. StepsFrom nfa s byte threads after c.in-Some-2.after) c.side_of-2.ensures (rw c.in-Some-2.is at c.in_ok-after.ensures.steps) in
    let same : c.in-Some-2.after ≡ matched = search rules in
    let equal = (bytes_eq-Decides c.as_slice.result.now c.as_slice-else-after-matched.result.now).0 (not-false _ (sym c.ne.ensures ∙ c.if-ne.false)) in
    let kept : c.in_ok-next.next.items ≡ other = c.in_ok-next.ensures.items ∙ c.deref.ensures.value in
    let lists : other ≡ after = sym kept ∙ sym c.as_slice-else-after-matched.ensures.value ∙ sym equal ∙ c.as_slice.ensures.value in
    steps_alike nfa row byte threads after matched (subst (λ qs. StepsFrom nfa (side_at row false) byte threads qs matched) lists first)
    (subst (λ m. StepsFrom nfa (side_at row true) byte threads after m) same second)

pub returns-then-alone-clause-steps : goal.returns-then-alone-clause-steps
unfolding StepsOn StepsFrom
returns-then-alone-clause-steps c line test agrees =
    c.in_ok-alone.ensures.moves c.if-alone.true test

pub returns-then-row-eq-START-clause-states : goal.returns-then-row-eq-START-clause-states
returns-then-row-eq-START-clause-states c =
    rw c.in-Some.is at c.in_ok-matched.ensures.states

pub returns-clause-states : goal.returns-clause-states
returns-clause-states c =
    rw c.in-Some-2.is at c.in_ok-after.ensures.states
