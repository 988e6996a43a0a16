use Rattle.std.proofs.Common.{◌≡◌, ◌∷◌, ◌++◌, [], Some, IsSome, length, inl, inr, refl, sym, ap, ◌∙◌, subst, arith}
use Rattle.std.proofs.lemmas.Bool.{cases_lt}
use Rattle.lrlex_table.specs.Group.{table_in, start_of, start_in, all_starts}
use Rattle.lrlex_table.proofs.GroupLemmas.{starts_more}
use Rattle.lrlex_table.proofs.group.all_starts.Goals as goal

pub places-init : goal.places-init
places-init c = (c.in_ok-starts.ensures.items, λ k lt. absurd (omega arith))

pub places-preserved : goal.places-preserved
places-preserved c =
    let cache = c.args.cache.now in
    let places = c.args.places.now in
    let pattern = c.in-Ok.pattern in
    let same : pattern ≡ c.places.at = omega (arith, c.in-Ok.ensures.1) in
    let there : table_in cache places pattern ≡ Some c.in-Some.table.now = c.in-Some.ensures in
    let start : start_in cache places pattern ≡ c.in-Some.table.now.start = ap start_of there in (
      c.in_ok-push.ensures.items ∙ ap (λ xs. xs ++ (pattern, c.in-Some.table.now.start) ∷ []) c.places.invariant.0
          ∙ ap (λ s. all_starts (start_in cache places) c.places.at ++ (pattern, s) ∷ []) (sym start)
          ∙ ap (λ k. all_starts (start_in cache places) c.places.at ++ (k, start_in cache places k) ∷ []) same
          ∙ sym (starts_more (start_in cache places) c.places.at),
      λ k lt. elim (cases_lt k c.places.at) [
        | inl low ↦ c.places.invariant.1 k low
        | inr high ↦
            let here : pattern ≡ k = omega (arith, c.in-Ok.ensures.1) in
            subst (λ i. IsSome (table_in cache places i)) here (subst IsSome (sym there) refl)
      ],
    )

pub returns-clause-starts : goal.returns-clause-starts
returns-clause-starts c =
    let all : c.places.at ≡ length c.args.places.now = omega (arith, c.places-test.false, c.places.auto.at-end) in
    c.places.invariant.0 ∙ ap (all_starts (start_in c.args.cache.now c.args.places.now)) all

pub returns-clause-tabled : goal.returns-clause-tabled
returns-clause-tabled c k lt = c.places.invariant.1 k (omega (arith, c.places-test.false))
