use Rattle.std.proofs.Common.{◌≡◌, ◌<◌, [], ◌∷◌, ◌++◌, None, length, sym, ap, ◌∙◌, subst, arith}
use Rattle.std.proofs.lemmas.Bool.{eqb-true}
use Rattle.std.proofs.lemmas.List.{length-map, nil_from_length}
use Rattle.lrlex_table.specs.Determinizer.{lists_of, win_of, StepsOn, IsFilling}
use Rattle.lrlex_table.proofs.DeterminizerLemmas.{filling_starts}
use Rattle.lrlex_table.proofs.determinize.Determinizer.begin.Goals as goal

pub returns-clause-filling : goal.returns-clause-filling
returns-clause-filling c =
    let nfa = c.args.dfa.now.nfa in
    let now = c.args.self.now in
    let row = c.args.row in
    let threads = c.args.threads.now in
    let matched = c.in-Some.matched in
    let filled = c.requires.filled in
    let scratch = c.step.new.scratch.next in
    let none : scratch.items ≡ [] = nil_from_length scratch.items (sym scratch.ok.0 ∙ eqb-true _ _ (sym c.if-not-is_empty.ensures)) in
    let steps : StepsOn nfa row None threads [] matched = subst (λ next. StepsOn nfa row None threads next matched) none (rw c.in-Some.is at c.in_ok-matched.ensures.steps) in
    let wins : now.wins.items ++ win_of matched ∷ [] ≡ c.push.new.self.items = sym (c.in_ok-push.ensures.items ∙ ap (λ w. now.wins.items ++ w ∷ []) c.win_for.ensures) in
    let len : length (lists_of now.rows) ≡ length now.rows.items = length-map now.rows.items (λ v. v.items) in
    let room : row < length (lists_of now.rows) = omega (arith, len, now.rows.ok.0, c.requires.row) in
    subst (λ ws. IsFilling nfa (lists_of now.rows) now.next.items ws row 0 threads matched) wins
    (filling_starts nfa (lists_of now.rows) now.next.items now.wins.items row threads matched filled.built room
    (sym now.wins.ok.0 ∙ filled.wins) (sym now.next.ok.0 ∙ filled.cells) c.requires.threads steps)
