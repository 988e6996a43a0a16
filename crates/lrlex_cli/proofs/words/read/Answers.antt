-- The matches of the command are those of its definition, and its refusal is that of the definition.
use Rattle.std.proofs.Common.{◌≡◌, ◌∙◌, refl, sym, subst, ap, rules, true, false, map, List, IfOk}
use Rattle.std.proofs.lemmas.Result.{IfErr-weaker}
use Rattle.clap.specs.Words.{App, Row, app_of, takes}
use Rattle.lrlex_cli.specs.Words.{IsReadFrom}
use Rattle.lrlex_cli.proofs.CommandLemmas.{rows_given}
use Rattle.lrlex_cli.proofs.words.read.Goals as goal

pub returns : goal.returns
returns c =
    let words = map (λ w. w.now) c.args.words.now in
    let rows = rows_given (app_of c.in_ok-lrlex_command.field-0) words c.in-Ok.matches c.in_ok-lrlex_command.ensures c.in-Ok.ensures.matches in
    record {
      value = subst (λ (r : List Row). IfOk c.words_of.result (IsReadFrom r)) rows c.words_of.ensures.value;
      refused = IfErr-weaker c.words_of.result _ _
          (λ e says can. says can.1.0 (subst (λ (r : List Row). IsReadFrom r can.1.0) (sym rows) can.1.1)) c.words_of.ensures.refused;
    }

pub returns-in-Err-2-clause-refused : goal.returns-in-Err-2-clause-refused
returns-in-Err-2-clause-refused c can =
    let words = map (λ w. w.now) c.args.words.now in
    let takes_them : takes (app_of c.in_ok-lrlex_command.field-0) words ≡ true =
    ap (λ (a : App). takes a words) c.in_ok-lrlex_command.ensures ∙ can.0 in
    let kind = c.in-Err.ensures.passes takes_them in
    let same : c.eq.result ≡ true = rw (c.eq.ensures, c.kind.ensures, kind) refl in
    let bad : false ≡ true = sym c.if-eq.false ∙ same in
    search rules
