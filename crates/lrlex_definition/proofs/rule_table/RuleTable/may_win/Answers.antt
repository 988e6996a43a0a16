use Rattle.std.proofs.Common.{ℕ, List, Vec, Global, length, map, sym, subst}
use Rattle.regex.specs.Patterns.{Re}
use Rattle.lrlex_table.specs.Never.{AreTablesOn, NeverWinsIn, WinsNowhereIn}
use Rattle.lrlex_table.specs.declared.tables.Tables.{Tables}
use Rattle.lrlex_definition.proofs.NeverLemmas.{never_anywhere}
use Rattle.lrlex_definition.proofs.rule_table.RuleTable.may_win.Goals as goal

pub returns-clause-never : goal.returns-clause-never
returns-clause-never g c k bare =
    let def = c.args.self.now in
    let lists = λ (xs : List (Vec ℕ Global)). map (λ (v : Vec ℕ Global). v.items) xs in
    never_anywhere g.S.Numbered.number def k
    (subst (λ (xs : List (Vec ℕ Global)). (pattern : ℕ → Re) → AreTablesOn pattern (lists xs) def.tables.items → NeverWinsIn pattern (lists xs) (length xs) k) c.deref-2.ensures.value
    (subst (λ (ts : List Tables). (pattern : ℕ → Re) → AreTablesOn pattern (lists c.deref-2.result.now) ts → NeverWinsIn pattern (lists c.deref-2.result.now) (length c.deref-2.result.now) k) c.deref.ensures.value
    (λ pattern are. c.in_ok-may_win.ensures.never pattern are k bare)))

pub returns-clause-struck : goal.returns-clause-struck
returns-clause-struck g c k nowhere =
    let def = c.args.self.now in
    let lists = λ (xs : List (Vec ℕ Global)). map (λ (v : Vec ℕ Global). v.items) xs in
    c.in_ok-may_win.ensures.struck k
    (subst (λ (xs : List (Vec ℕ Global)). WinsNowhereIn (lists xs) c.deref.result.now k) (sym c.deref-2.ensures.value)
    (subst (λ (ts : List Tables). WinsNowhereIn (lists def.lists.items) ts k) (sym c.deref.ensures.value) nowhere))
