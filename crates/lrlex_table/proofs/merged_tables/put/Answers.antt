use Rattle.std.proofs.Common.{◌≡◌, ◌++◌, ◌∷◌, ◌<◌, set, length, sym, ap, ◌∙◌, subst, arith}
use Rattle.std.proofs.lemmas.List.Elements.{All-get_or, All-set}
use Rattle.lrlex_table.specs.declared.merged_tables.Part.{Part}
use Rattle.lrlex_table.specs.Tables.{IsPartOf, AreParts, Covers}
use Rattle.lrlex_table.proofs.PartLemmas.{covers_set}
use Rattle.lrlex_table.proofs.merged_tables.put.Goals as goal

pub returns-in-Some-clause-parts : goal.returns-in-Some-clause-parts
returns-in-Some-clause-parts c ps lo hi are is =
    let items = c.parts.parts.items in
    let same : items ≡ c.args.parts.now.items = ap (λ v. v.items) c.parts.invariant.0 in
    let old : AreParts ps lo hi items = subst (AreParts ps lo hi) (sym same) are in
    let lt : c.parts.at < length items = omega (arith, c.parts-test.true, c.len-at-end.ensures, c.args.parts.now.ok.0, ap length same) in
    let here : IsPartOf ps lo hi c.index.result.now = subst (IsPartOf ps lo hi) (sym c.index.ensures) (All-get_or (IsPartOf ps lo hi) items c.parts.at c.index.result.now lt old) in
    let both = rw c.in-Some.is at (c.in_ok-joined.ensures.part ps lo hi here is) in
    All-set (IsPartOf ps lo hi) items c.parts.at c.in-Some.both both old

pub returns-in-Some-clause-covers : goal.returns-in-Some-clause-covers
returns-in-Some-clause-covers c =
    let items = c.parts.parts.items in
    let same : items ≡ c.args.parts.now.items = ap (λ v. v.items) c.parts.invariant.0 in
    let lt : c.parts.at < length items = omega (arith, c.parts-test.true, c.len-at-end.ensures, c.args.parts.now.ok.0, ap length same) in
    let patterns = rw c.in-Some.is at c.in_ok-joined.ensures.patterns in
    subst (λ xs. Covers (set items c.parts.at c.in-Some.both) (c.args.part ∷ xs)) same
    (covers_set items c.parts.at c.index.result.now c.in-Some.both c.args.part lt (patterns ∙ ap (λ (p : Part). p.patterns.items ++ c.args.part.patterns.items) c.index.ensures))
