use Rattle.std.proofs.Common.{◌≡◌, ◌+◌, ◌++◌, ◌∷◌, [], Some, length, length-append, map, slice_get, slice_index_or, sym, ap, ◌∙◌, subst, arith}
use Rattle.std.specs.Prelude.{option_copied}
use Rattle.std.proofs.lemmas.List.{get_or_default}
use Rattle.std.proofs.lemmas.Option.{none-some, same_Some}
use Rattle.lrlex_table.specs.Chain.{no_name}
use Rattle.lrlex_table.specs.declared.chain.Chain.{Chain}
use Rattle.lrlex_definition.proofs.RowKindLemmas.{AreSet, set_all, set_more}
use Rattle.lrlex_definition.proofs.row_kinds.row_kinds_of.Goals as goal

pub names-preserved : goal.names-preserved
names-preserved g c =
    let rules = c.args.rules.now in
    let rows = c.names.rows.items in
    let row = c.names.row in
    let lists = map (λ v. v.items) c.args.lists.now in
    let names = c.names-names.result.now in
    let made = c.with_kind.result in
    let len = c.names.invariant.0 in
    let items = c.in_ok-push.ensures.items in
    let named = ap (λ i. slice_index_or names i no_name) (sym len) in
    let more : AreSet rules lists names (length rows + 1) (rows ++ made ∷ []) =
    set_more rules lists names rows _ made (subst (λ n. AreSet rules lists names n rows) (sym len) c.names.invariant.1) (get_or_default names row _ no_name (omega (arith, c.names-test.true)) ∙ named)
    c.with_kind.ensures.list (c.with_kind.ensures.rule ∙ c.rule_of.ensures) (λ x at. c.with_kind.ensures.kind x (ap (slice_get rules) (sym c.with_kind.ensures.rule) ∙ at)) in (
      omega (arith, ap length items, length-append rows (made ∷ []), len),
      subst (λ xs. AreSet rules lists names (row + 1) xs) (sym items) (subst (λ n. AreSet rules lists names (n + 1) (rows ++ made ∷ [])) len more),
    )

pub returns : goal.returns
returns g c =
    let rules = c.args.rules.now in
    let lists = map (λ v. v.items) c.args.lists.now in
    let rows = c.names.rows.items in
    let has : slice_get c.args.chains.now 0 ≡ Some c.in-Some.chain.now = sym c.first.ensures.value ∙ ap option_copied c.in-Some.is in (
      λ none. absurd (none-some _ (sym none ∙ has)),
      λ chain at r w e.
          let same : c.in-Some.chain.now ≡ chain = same_Some _ chain (sym has ∙ at) in
          set_all rules lists chain c.names.row rows (subst (λ ns. AreSet rules lists ns c.names.row rows) (c.names-names.ensures ∙ ap (λ (k : Chain). k.names.items) same) c.names.invariant.1)
          (omega (arith, c.names.invariant.0)) r w e,
    )
