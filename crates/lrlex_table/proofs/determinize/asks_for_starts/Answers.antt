use Rattle.std.proofs.Common.{◌≡◌, inl, inr, sym, ◌∙◌, subst, arith}
use Rattle.std.proofs.lemmas.Bool.{cases_lt}
use Rattle.regex_nfa.specs.Run.{state_of}
use Rattle.regex_nfa.specs.declared.state.State.TheVariants.{Look}
use Rattle.regex_dfa.proofs.ClassesLemmas.{state_within}
use Rattle.lrlex_table.specs.Determinizer.{IsStart}
use Rattle.lrlex_table.proofs.determinize.asks_for_starts.Goals.{in-Look+in-Start, in_default}
use Rattle.lrlex_table.proofs.determinize.asks_for_starts.Goals as goal

pub states-preserved : goal.states-preserved
states-preserved c q l next lt is = elim (cases_lt q c.states.q) [
  | inl low ↦ c.states.invariant q l next low is
  | inr ge ↦
      let here : q ≡ c.states.q = omega arith in
      let state : c.state.result ≡ Look l next = c.state.ensures.is ∙ subst (λ i. state_of c.args.nfa.now i ≡ Look l next) here is in
      elim c.match-state.branch [
        | in-Look+in-Start w ↦
            let found : Look w.in-Look.look w.in-Look.next ≡ Look l next = sym w.in-Look.is ∙ state in
            let same : w.in-Look.look ≡ l = cc in
            subst IsStart same w.in-Start.is
        | in_default w ↦ absurd (w.in_default.not-Look l next state)
      ]
]

pub returns : goal.returns
returns c holds q l next is =
    let inside = state_within c.args.nfa.now.states.items q _ is (λ e. cc) in
    c.states.invariant q l next (omega (arith, inside, c.args.nfa.now.states.ok.0, c.len-q-end.ensures, c.states-test.false)) is
