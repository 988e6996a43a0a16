use Rattle.std.proofs.Common.{ℕ, ◌-◌, slice_get, drop, sym, ap, ◌∙◌, subst, arith}
use Rattle.lrlex_table.specs.Tables.{is_tabled, IsBestAmong}
use Rattle.lrlex_table.specs.Chain.{name_of}
use Rattle.lrlex_table.specs.Ahead.{IsBestUpTo}
use Rattle.lrlex_table.proofs.dead_ends.DeadEnds.take.Goals as goal

best_up_to : (c : goal.After-pass_ahead) →
    IsBestUpTo c.args.tables.now c.args.self.now.text.now c.args.place (name_of c.in_ok-chain.field-0.now c.in_ok-next.next.row) c.in_ok-next.next.end
best_up_to c =
    let there = ap (slice_get c.args.self.now.lists.now) (sym c.in_ok-name.ensures.0 ∙ c.if-name-list.false) ∙ c.requires.tables in
    c.in_ok-next.ensures.best c.in_ok-chain.field-0 (sym c.requires.chain ∙ c.in_ok-chain.was) c.args.tables.now there

pub returns-clause-tabled : goal.returns-clause-tabled
returns-clause-tabled c = (best_up_to c).tabled

pub returns-clause-winner : goal.returns-clause-winner
returns-clause-winner c ps are =
    let best = best_up_to c in
    let Best = λ (k : ℕ). IsBestAmong ps (is_tabled c.args.tables.now.parts.items) (drop c.args.place c.args.self.now.text.now) k (c.in_ok-next.next.end - c.args.place) in
    (omega (arith, best.some), subst Best (sym c.in_ok-name.ensures.1) (best.best ps are))

pub returns-clause-decided : goal.returns-clause-decided
returns-clause-decided c = (best_up_to c).decided
