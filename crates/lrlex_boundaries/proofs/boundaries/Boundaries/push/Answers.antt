use Rattle.std.proofs.Common.{[], ◌∷◌, ◌++◌, ap₂, arith, ◌∙◌}
use Rattle.lrlex_boundaries.specs.declared.stretch.Stretch.{Stretch}
use Rattle.lrlex_boundaries.proofs.ArenaLemmas.{last_range, stays_whole, stays_within, stays_same, in_order_more_entries, in_order_repeat, in_order_enter, bounds_more_entries, bounds_enter}
use Rattle.lrlex_boundaries.proofs.boundaries.Boundaries.push.Goals as goal

pub overflow_sub-last : goal.overflow_sub-last
overflow_sub-last c =
    (last_range c.self.invariant c.self.view_is c.last_of-last.ensures c.deref.ensures.value).range.ordered

pub returns-then-kept-last : goal.returns-then-kept-last
returns-then-kept-last c =
    let stack = stays_whole (last_range c.self.invariant c.self.view_is c.last_of-last.ensures c.deref.ensures.value) c.requires c.if-kept-stack.true c.if-kept-last.true in
    rw stack c.repeat.ensures

pub stored-requires-clause-within : goal.stored-requires-clause-within
stored-requires-clause-within c =
    stays_within (last_range c.self.invariant c.self.view_is c.last_of-last.ensures c.deref.ensures.value) c.requires

pub stored-requires-clause-same : goal.stored-requires-clause-same
stored-requires-clause-same c =
    stays_same (last_range c.self.invariant c.self.view_is c.last_of-last.ensures c.deref.ensures.value) c.requires

pub invariant_of-self : goal.invariant_of-self
invariant_of-self c = in_order_more_entries c.stored.ensures.longer c.self.invariant

pub invariant_of-self-in_err-push : goal.invariant_of-self-in_err-push
invariant_of-self-in_err-push c = rw c.in_err-push.ensures.items (in_order_more_entries c.stored.ensures.longer c.self.invariant)

pub invariant_of-self-in_err-push-2 : goal.invariant_of-self-in_err-push-2
invariant_of-self-in_err-push-2 c =
    rw c.in_err-push-2.ensures.items (in_order_repeat c.args.place c.in_ok-push.ensures.items (in_order_more_entries c.stored.ensures.longer c.self.invariant))

pub invariant_of-self-2 : goal.invariant_of-self-2
invariant_of-self-2 c =
    let s : Stretch = record { from = c.len-from.result; first = c.in_ok-first.first; end = c.in_ok-first.end } in
    in_order_enter s c.args.place c.in_ok-push-2.ensures.items c.in_ok-push.ensures.items (omega arith)
    (record { ordered = c.in_ok-first.ensures.ordered; within = c.in_ok-first.ensures.within })
    (in_order_more_entries c.stored.ensures.longer c.self.invariant)

pub returns : goal.returns
returns c =
    let s : Stretch = record { from = c.len-from.result; first = c.in_ok-first.first; end = c.in_ok-first.end } in
    bounds_enter s c.args.place c.in_ok-push-2.ensures.items c.in_ok-push.ensures.items (omega arith) (in_order_more_entries c.stored.ensures.longer c.self.invariant)
    ∙ ap₂ (λ ms stack. ms ++ record { place = c.args.place; entries = stack } ∷ [])
    (bounds_more_entries c.stored.ensures.longer c.self.invariant ∙ c.self.view_is) c.in_ok-first.ensures.stack
