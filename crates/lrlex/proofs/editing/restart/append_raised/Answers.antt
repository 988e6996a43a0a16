use Rattle.std.proofs.Common.{◌≡◌, ℕ, ◌+◌, ◌-◌, ◌<◌, ◌≤◌, ◌++◌, max, length, drop, get_or, sym, subst, inl, inr, arith, rules}
use Rattle.std.proofs.lemmas.Bool.{cases_lt}
use Rattle.lrlex_boundaries.specs.Boundaries.{boundary_at}
use Rattle.lrlex.specs.Lookahead.{AreRaised, capped}
use Rattle.lrlex.proofs.RaisedLemmas.{enough_raised, raised_push, raised_rest}
use Rattle.lrlex.proofs.editing.restart.append_raised.Goals.{At-near, in-Some, in-None}
use Rattle.lrlex.proofs.editing.restart.append_raised.Goals as goal

-- the boundary that is answered stands behind the one at hand, and from there on all are far enough
far_enough : (c : At-near) → (c.args.index < c.match-checked_add.far) × (c.match-checked_add.far ≤ length c.args.old.now)
    × ((k : ℕ) → c.match-checked_add.far ≤ k → k < length c.args.old.now → (boundary_at c.args.old.now c.args.index).place + c.args.lookahead < (boundary_at c.args.old.now k).place)
far_enough c = elim c.match-checked_add.branch [
  | in-Some w ↦
      let sum : w.in-Some.end ≡ (boundary_at c.args.old.now c.args.index).place + c.args.lookahead = search (rules, arith) in
      let e = w.count_up_to-far.ensures in (
        elim (cases_lt c.args.index c.match-checked_add.far) [
          | inl lt ↦ lt
          | inr ge ↦ absurd (omega (arith, e.past c.args.index (omega (arith, w.far-is)) c.requires.within, sum))
        ],
        omega (arith, w.far-is, e.within),
        λ k ge lt. omega (arith, e.past k (omega (arith, w.far-is)) lt, sum),
      )
  | in-None w ↦ (
    omega (arith, w.far-is, w.len-far.ensures, c.requires.within),
    omega (arith, w.far-is, w.len-far.ensures),
    λ k ge lt. absurd (omega (arith, w.far-is, w.len-far.ensures)),
  )
]

pub near-preserved : goal.near-preserved
near-preserved c =
    let old = c.args.old.now in
    let numbers = c.args.numbers.now in
    let j = c.args.index in
    let lookahead = c.args.lookahead in
    let next = c.near.next in
    let far = far_enough (goal.at.near-preserved c).At-near in
    let n = c.max.result in
    let is : n ≡ max (get_or numbers next 0) (capped (lookahead - ((boundary_at old next).place - (boundary_at old j).place))) =
    omega (arith, c.max.ensures, c.capped.ensures, c.saturating_sub-rest.ensures, c.place.ensures, c.place-from.ensures) in
    subst (AreRaised old numbers j lookahead (next + 1) c.args.ahead.now.items) (sym c.in_ok-push.ensures.items)
    (raised_push old numbers j lookahead c.args.ahead.now.items next c.near.ahead.items n c.near.invariant (omega arith)
    (enough_raised old numbers j lookahead next n c.requires.sorted (omega arith) (omega (arith, far.1)) is))

pub returns-clause-raised : goal.returns-clause-raised
returns-clause-raised c =
    let old = c.args.old.now in
    let numbers = c.args.numbers.now in
    let j = c.args.index in
    let lookahead = c.args.lookahead in
    let next = c.near.next in
    let front = c.args.ahead.now.items in
    let all = c.near.ahead.items in
    let far = far_enough (goal.at.returns-clause-raised c).At-near in
    let at : next ≡ c.match-checked_add.far = omega (arith, far.0) in
    subst (λ i. AreRaised old numbers j lookahead (length old) front (all ++ drop i numbers)) at
    (raised_rest old numbers j lookahead front next all c.near.invariant (omega (arith, far.0)) (omega (arith, far.1)) c.requires.numbers (λ k ge lt. far.2 k (omega arith) lt))
