use Rattle.std.proofs.Common.{◌≡◌, ◌∷◌, [], ◌++◌, List, length, vec_len, refl, sym, ap, subst, ◌∙◌, append_assoc, append-nil, arith}
use Rattle.std.proofs.lemmas.List.Sums.{sum_by_push}
use Rattle.std.specs.Vec.Iter.{into_iter_items}
use Rattle.lrlex_table.specs.declared.merged_tables.Part.{Part}
use Rattle.lrlex_table.specs.Tables.{rows_of, IsPartOf, ArePartsOf}
use Rattle.lrlex_table.proofs.PartLemmas.{Neither, neither_more, all_at, parts_wider, parts_both, rising_bounds}
use Rattle.lrlex_table.proofs.merged_tables.joined_tables.Goals as goal

nothing_left : {X : Type 0} (l : List X) → length l ≡ 0 → l ≡ []
nothing_left [] h = refl
nothing_left (x ∷ xs) h = absurd (omega arith)

pub parts-preserved : goal.parts-preserved
parts-preserved c =
    let at = c.parts in
    let x = c.in-Some.part in
    let rest = into_iter_items c.next.new.self in
    let inv = at.invariant in
    let steps : into_iter_items at.part-iterator ≡ x ∷ rest = c.in-Some.ensures.steps.0 in
    let gone = c.in-Some.ensures.steps.1 in
    let short = ap length steps in
    let was = inv.2 in
    let whole : at.yielded ++ x ∷ rest ≡ c.args.right.parts.items = rw steps at inv.1 ∙ c.into_iter-part-iterator.ensures.into_iter_gives.0 in (
      inv.0,
      append_assoc at.yielded (x ∷ []) rest ∙ rw steps at inv.1,
      omega arith,
      λ ps lo hi left right. c.in_ok-put.ensures.parts ps lo hi (inv.3 ps lo hi left right) (all_at (IsPartOf ps lo hi) c.args.right.parts.items at.yielded rest x right whole),
      neither_more c.put.new.parts.items at.parts.items c.args.left.parts.items at.yielded x c.in_ok-put.ensures.covers inv.4,
      omega (arith, inv.5, c.in_ok-put.ensures.paid, sum_by_push (λ (p : Part). vec_len p.table.wins) at.yielded x),
    )

-- all of them were gone through
all_yielded : (yielded rest all : List Part) → length rest ≡ 0 → yielded ++ rest ≡ all → yielded ≡ all
all_yielded yielded [] all none whole = sym (append-nil yielded) ∙ whole
all_yielded yielded (x ∷ rest) all none whole = absurd (omega arith)

pub returns-clause-paid : goal.returns-clause-paid
returns-clause-paid c =
    let at = c.parts in
    let inv = at.invariant in
    let all = all_yielded at.yielded (into_iter_items at.part-iterator) c.args.right.parts.items (sym inv.2 ∙ c.in-None.ensures.steps.0) (inv.1 ∙ c.into_iter-part-iterator.ensures.into_iter_gives.0) in
    omega (arith, inv.5, ap rows_of all)

pub returns-clause-tables : goal.returns-clause-tables
returns-clause-tables c ps lo middle hi left right =
    let at = c.parts in
    let inv = at.invariant in
    let none = c.in-None.ensures.steps in
    let empty : into_iter_items at.part-iterator ≡ [] = nothing_left _ (sym inv.2 ∙ none.0) in
    let all : at.yielded ≡ c.args.right.parts.items = sym (append-nil at.yielded) ∙ rw empty at inv.1 ∙ c.into_iter-part-iterator.ensures.into_iter_gives.0 in
    let asked : c.extend_from_slice.new.self.items ≡ c.args.left.asked.items ++ c.args.right.asked.items =
    c.in_ok-extend_from_slice.ensures.items ∙ ap (λ v. v.items ++ c.deref.result.now) inv.0 ∙ ap (λ l. c.args.left.asked.items ++ l) c.deref.ensures.value in
    let below = rising_bounds lo middle c.args.left.asked.items left.rises in
    let above = rising_bounds middle hi c.args.right.asked.items right.rises in
    subst (ArePartsOf ps lo hi at.parts.items) (sym asked)
    (parts_both ps lo middle hi c.args.left.parts.items c.args.right.parts.items at.parts.items c.args.left.asked.items c.args.right.asked.items left right
    (inv.3 ps lo hi (parts_wider ps lo middle lo hi c.args.left.parts.items (omega arith) above left.are) (parts_wider ps middle hi lo hi c.args.right.parts.items below (omega arith) right.are))
    (λ k missing. subst (λ ys. Neither c.args.left.parts.items ys k) all (inv.4 k missing)))
