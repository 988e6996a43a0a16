-- What the first pass found, the second has written.
use Rattle.std.proofs.Common.{◌∙◌, ap, subst, sym}
use Rattle.lrlex.specs.Active.{is_state}
use Rattle.lrlex.specs.Scanner.{Scanned}
use Rattle.lrlex.specs.Views.{definition_by}
use Rattle.lrlex_cli.specs.Engine.{EndsWriting}
use Rattle.lrlex_cli.specs.Scanning.{IsFirstPass}
use Rattle.lrlex_cli.proofs.EngineLemmas.{lexing_without_memory, own_front, passes_end}
use Rattle.lrlex_cli.proofs.engine.write_lexed.Goals as goal

pub returns-in_err-waiting : goal.returns-in_err-waiting
returns-in_err-waiting g c = lexing_without_memory _ _ _ _ c.from_residual.ensures.1

pub returns-in_err-scanner : goal.returns-in_err-scanner
returns-in_err-scanner g c = lexing_without_memory _ _ _ _ c.from_residual-in_err-scanner.ensures.1

pub returns-in_err-first : goal.returns-in_err-first
returns-in_err-first g c = lexing_without_memory _ _ _ _ c.from_residual-in_err-first.ensures.1

pub first_pass-requires-clause-front : goal.first_pass-requires-clause-front
first_pass-requires-clause-front g c = own_front _ _ _ _ c.in_ok-scanner.ensures

pub first_pass-requires-clause-initial : goal.first_pass-requires-clause-initial
first_pass-requires-clause-initial g c = ap (λ (y : Scanned). is_state y.definition 0) c.in_ok-scanner.ensures ∙ c.requires

pub second_pass-written-requires-clause-definition : goal.second_pass-written-requires-clause-definition
second_pass-written-requires-clause-definition g c =
    c.in_ok-first.ensures.definition ∙ ap (λ (y : Scanned). y.definition) c.in_ok-scanner.ensures ∙ ap (definition_by g.L.StorageT.Numbered.number) (sym c.rule_table.ensures)

pub second_pass-written-requires-clause-text : goal.second_pass-written-requires-clause-text
second_pass-written-requires-clause-text g c = c.in_ok-first.ensures.text ∙ ap (λ (y : Scanned). y.text) c.in_ok-scanner.ensures

pub second_pass-written-requires-clause-found : goal.second_pass-written-requires-clause-found
second_pass-written-requires-clause-found g c =
    rw (sym c.rule_table.ensures) at (subst (λ (y : Scanned). IsFirstPass g.L.StorageT.Numbered.number y.definition y.text c.in_ok-first.first) c.in_ok-scanner.ensures c.in_ok-first.ensures.found)

pub returns : goal.returns
returns g c =
    let old = g.W.Write.contents c.args.out.now in
    let new = g.W.Write.contents c.second_pass-written.new.out in
    passes_end _ _ _ old new _ _ (rw c.rule_table.ensures at c.second_pass-written.ensures) (λ text h. subst (λ b. EndsWriting old new c.ending.result text b) c.stopped.ensures (c.ending.ensures old new text h))
