use Rattle.std.proofs.Common.{◌+◌, ◌∷◌, [], ◌++◌, length, refl, sym, ap, ◌∙◌, subst, arith}
use Rattle.lrlex_boundaries.specs.Entries.{plain, AreEntries}
use Rattle.lrlex.proofs.EntryLemmas.{plain-more, plain-one, length-plain-last, entries-raised, entries-more}
use Rattle.lrlex.proofs.lexing.stack.push_state.Goals as goal

pub overflow_add-count : goal.overflow_add-count
overflow_add-count c =
    omega (arith, c.requires.room, ap (λ xs. length (plain xs)) c.in-Some.ensures.items, length-plain-last c.pop.new.self.items c.in-Some.count c.in-Some.state)

pub returns-in_ok-push-in-Some-clause-pushed : goal.returns-in_ok-push-in-Some-clause-pushed
returns-in_ok-push-in-Some-clause-pushed c =
    ap plain c.in_ok-push-in-Some.ensures.items
    ∙ plain-more c.pop.new.self.items c.in-Some.count (c.in-Some.count + 1) c.args.id refl
    ∙ ap (λ xs. plain xs ++ c.args.id ∷ []) (ap (λ q. c.pop.new.self.items ++ (c.in-Some.count, q) ∷ []) (sym c.if-state-id.true) ∙ sym c.in-Some.ensures.items)

pub returns-in_ok-push-in-Some-clause-entries : goal.returns-in_ok-push-in-Some-clause-entries
returns-in_ok-push-in-Some-clause-entries c =
    subst AreEntries (ap (λ q. c.pop.new.self.items ++ (c.in-Some.count + 1, q) ∷ []) c.if-state-id.true ∙ sym c.in_ok-push-in-Some.ensures.items)
    (entries-raised c.pop.new.self.items c.in-Some.count (c.in-Some.count + 1) c.in-Some.state (subst AreEntries c.in-Some.ensures.items c.requires.entries) (omega arith))

pub returns-in_ok-push-in-Some-2-2-clause-pushed : goal.returns-in_ok-push-in-Some-2-2-clause-pushed
returns-in_ok-push-in-Some-2-2-clause-pushed c =
    ap plain c.in_ok-push-in-Some-2-2.ensures.items ∙ plain-one c.push-in-Some-2.new.self.items c.args.id
    ∙ ap (λ xs. plain xs ++ c.args.id ∷ []) (c.in_ok-push-in-Some-2.ensures.items ∙ sym c.in-Some.ensures.items)

pub returns-in_ok-push-in-Some-2-2-clause-entries : goal.returns-in_ok-push-in-Some-2-2-clause-entries
returns-in_ok-push-in-Some-2-2-clause-entries c =
    subst AreEntries (sym (c.in_ok-push-in-Some-2-2.ensures.items ∙ ap (λ xs. xs ++ (1, c.args.id) ∷ []) c.in_ok-push-in-Some-2.ensures.items))
    (entries-more c.pop.new.self.items (c.in-Some.count, c.in-Some.state) c.args.id (subst AreEntries c.in-Some.ensures.items c.requires.entries) c.if-state-id.false)
