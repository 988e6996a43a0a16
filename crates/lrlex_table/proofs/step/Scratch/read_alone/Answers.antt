use Rattle.std.proofs.Common.{option_and_then, slice_index, ◌++◌, ◌∷◌, [], sym, ap, ◌∙◌, subst, arith}
use Rattle.regex_nfa.specs.States.{next_on}
use Rattle.lrlex_table.proofs.ReaderLemmas.{IsReader, one_thread, moves_to, moves_nowhere}
use Rattle.lrlex_table.proofs.step.Scratch.read_alone.Goals as goal

pub returns-in_default-byte-clause-moves : goal.returns-in_default-byte-clause-moves
returns-in_default-byte-clause-moves c done test =
    let nfa = c.args.nfa.now in
    let qs = c.args.threads.now in
    moves_nowhere nfa qs (slice_index qs 0) c.args.byte (one_thread qs (omega (arith, c.if-threads-ne1.false)))
    (subst IsReader c.state-state.ensures.is c.in-ByteRange.is) _
    (ap (option_and_then (next_on nfa.transitions.items _)) c.in_default-byte.is) c.clear.ensures.items test

pub returns-in_ok-push-clause-moves : goal.returns-in_ok-push-clause-moves
returns-in_ok-push-clause-moves c done test =
    let nfa = c.args.nfa.now in
    let qs = c.args.threads.now in
    let target = ap (option_and_then (next_on nfa.transitions.items _)) c.in-Some.is ∙ ap (λ s. next_on nfa.transitions.items s c.in-Some.byte) (sym c.state-state.ensures.is)
    ∙ sym c.in-Some-next_on.ensures.is in
    moves_to nfa qs (slice_index qs 0) c.args.byte (one_thread qs (omega (arith, c.if-threads-ne1.false)))
    (subst IsReader c.state-state.ensures.is c.in-ByteRange.is) c.in-Some-next_on.target _ target
    (c.in_ok-push.ensures.items ∙ ap (λ l. l ++ c.in-Some-next_on.target ∷ []) c.clear.ensures.items) test

pub returns-in_default-next_on-clause-moves : goal.returns-in_default-next_on-clause-moves
returns-in_default-next_on-clause-moves c done test =
    let nfa = c.args.nfa.now in
    let qs = c.args.threads.now in
    let none = ap (option_and_then (next_on nfa.transitions.items _)) c.in-Some.is ∙ ap (λ s. next_on nfa.transitions.items s c.in-Some.byte) (sym c.state-state.ensures.is)
    ∙ sym c.in_default-next_on.ensures.is in
    moves_nowhere nfa qs (slice_index qs 0) c.args.byte (one_thread qs (omega (arith, c.if-threads-ne1.false)))
    (subst IsReader c.state-state.ensures.is c.in-ByteRange.is) _ none c.clear.ensures.items test
