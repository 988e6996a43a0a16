use Rattle.std.proofs.Common.{◌≡◌, sym, ◌∙◌, arith}
use Rattle.lrlex_table.proofs.KnownLemmas.{ok_of, err_of, Puts, dead_ends_stay, within_stays, up_to_stays, dead_ends_after, within_after, up_to_after, elsewhere, other_parts}
use Rattle.lrlex_table.proofs.dead_ends.DeadEnds.add.Goals as goal
use Rattle.lrlex_table.proofs.dead_ends.DeadEnds.add.Goals.{Else-is_err, Then-is_err}

put : (c : Else-is_err) → Puts c.args.self.now.known c.insert.new.self c.args.end
put c = (ok_of c.insert.result (sym c.is_err.ensures.value ∙ c.if-is_err.false) c.insert.ensures.updates).0

same : (c : Then-is_err) → c.insert.new.self.entries ≡ c.args.self.now.known.entries
same c = err_of c.insert.result (sym c.is_err.ensures.value ∙ c.if-is_err.true) c.insert.ensures.err

pub invariant_of-self : goal.invariant_of-self
invariant_of-self c = record {
  right = dead_ends_stay c.args.self.now.known c.insert.new.self (same c) c.args.self.now.lists.now c.args.self.now.text.now c.args.self.now.right;
  up_to = up_to_stays c.args.self.now.known c.insert.new.self (same c) c.args.self.now.known_to c.max-self.result c.args.self.now.up_to (omega (arith, c.max-self.ensures));
  within = within_stays c.args.self.now.known c.insert.new.self (same c) c.args.self.now.lists.now c.args.self.now.text.now c.args.self.now.within;
  marked = c.args.self.now.marked;
  won = c.args.self.now.won;
  chained = c.args.self.now.chained;
}

pub invariant_of-self-else-is_err : goal.invariant_of-self-else-is_err
invariant_of-self-else-is_err c = record {
  right = dead_ends_after c.args.self.now.known c.insert.new.self c.args.end (put c) c.args.self.now.lists.now c.args.self.now.text.now c.args.self.now.right c.requires.vain;
  up_to = up_to_after c.args.self.now.known c.insert.new.self c.args.end (put c) c.args.self.now.known_to c.max-self.result c.args.self.now.up_to (omega (arith, c.max-self.ensures)) (omega (arith, c.max-self.ensures));
  within = within_after c.args.self.now.known c.insert.new.self c.args.end (put c) c.args.self.now.lists.now c.args.self.now.text.now c.args.self.now.within c.requires.within;
  marked = c.args.self.now.marked;
  won = c.args.self.now.won;
  chained = c.args.self.now.chained;
}

pub returns-else-is_err-clause-elsewhere : goal.returns-else-is_err-clause-elsewhere
returns-else-is_err-clause-elsewhere c = elsewhere c.args.self.now.known c.insert.new.self c.args.end (ok_of c.insert.result (sym c.is_err.ensures.value ∙ c.if-is_err.false) c.insert.ensures.updates).0

pub returns-else-is_err-clause-other_parts : goal.returns-else-is_err-clause-other_parts
returns-else-is_err-clause-other_parts c = other_parts c.args.self.now.known c.insert.new.self c.args.end (ok_of c.insert.result (sym c.is_err.ensures.value ∙ c.if-is_err.false) c.insert.ensures.updates).0
