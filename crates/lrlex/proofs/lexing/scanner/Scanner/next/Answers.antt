use Rattle.std.proofs.Common.{◌≡◌, false, None, IfOk, sym, ap, ◌∙◌, subst}
use Rattle.lrlex_rules.specs.Active.{is_state}
use Rattle.lrlex.specs.Scanner.{IsStep, Scanned, scanned, scanned_by}
use Rattle.lrlex.proofs.lexing.scanner.Scanner.next.Goals as goal
use Rattle.lrlex.proofs.lexing.scanner.Scanner.next.Goals.{in-Some, in-None}

pub next_step-requires-clause-cursor : goal.next_step-requires-clause-cursor
next_step-requires-clause-cursor g c = rw c.in-Some.is at c.self.invariant.0

pub returns-clause-step : goal.returns-clause-step
returns-clause-step g c =
    let table = c.self.inside.source.table.now in
    let text = c.self.inside.source.text.now in
    elim c.match-self.branch [
      | in-Some w ↦
          let at : scanned_by g.S.Numbered.number table text w.in-Some.cursor ≡ c.args.self.now = ap (scanned g.S.Numbered.number table text) (sym w.in-Some.is) ∙ c.self.view_is in
          subst (λ r. IfOk r (IsStep g.S.Numbered.number c.args.self.now)) (sym w.result-is) (subst (λ s. IfOk w.next_step.result (IsStep g.S.Numbered.number s)) at w.next_step.ensures.step)
      | in-None w ↦
          let at : scanned g.S.Numbered.number table text None ≡ c.args.self.now = ap (scanned g.S.Numbered.number table text) (sym w.in-None.is) ∙ c.self.view_is in
          subst (λ r. IfOk r (IsStep g.S.Numbered.number c.args.self.now)) (sym w.result-is) (subst (λ (s : Scanned). is_state s.definition 0 ≡ false) at (rw w.in-None.is at c.self.invariant.0))
    ]
