use Rattle.std.proofs.Common.{◌≡◌, ℕ, ◌+◌, ◌<◌, ◌≤◌, length, Some, slice_index_or, subst, inl, inr, arith}
use Rattle.std.proofs.lemmas.Bool.{cases_lt}
use Rattle.std.proofs.lemmas.List.{get_or_past}
use Rattle.lrlex_table.specs.Table.{next_rows, next_of}
use Rattle.lrlex_table.specs.Chain.{start_of, IsIn, IsOnly, BeginsIn}
use Rattle.lrlex_table.specs.declared.chain.Chain.{Chain}
use Rattle.lrlex_table.specs.declared.merged_tables.Part.{Part}
use Rattle.lrlex_table.proofs.chain.Chain.begins_as_lists.Goals as goal

pub lists-preserved : goal.lists-preserved
lists-preserved c =
    let self = c.args.self.now in
    let lists = c.args.lists.now in
    let firsts = c.args.firsts.now in
    let one = c.begins_as.ensures in
    let held = c.if-not-begins_as.false in
    let is : (m : ℕ) → m < c.lists.list + 1 → c.lists.list ≤ m → c.lists.list ≡ m = λ m lt ge. omega arith in
    record {
      only = λ m lt. elim (cases_lt m c.lists.list) [
        | inl before ↦ c.lists.invariant.only m before
        | inr last ↦ subst (λ i. IsIn self i → (p : Part) × IsOnly lists i p) (is m lt last) (one.only held)
      ];
      classes = λ m lt. elim (cases_lt m c.lists.list) [
        | inl before ↦ c.lists.invariant.classes m before
        | inr last ↦
            subst (λ i. IsIn self i → (p : Part) → IsOnly lists i p → (r b : ℕ) → b < 256 → next_of (next_rows p.table) r (Some b) ≡ next_of (next_rows p.table) r (Some (slice_index_or firsts b 0))) (is m lt last) (one.classes held)
      ];
      begins = λ m lt. elim (cases_lt m c.lists.list) [
        | inl before ↦ c.lists.invariant.begins m before
        | inr last ↦ subst (λ i. IsIn self i → (k : ℕ) (p : Part) → IsOnly lists k p → BeginsIn p.table k self (start_of self i)) (is m lt last) (one.begins held)
      ];
    }

-- a list in the chain is one of those that were checked
checked : (self : Chain) (n m : ℕ) → length self.starts.items ≤ n → IsIn self m → m < n
checked self n m all here = elim (cases_lt m n) [
  | inl lt ↦ lt
  | inr ge ↦ absurd (omega (arith, here, get_or_past self.starts.items m (length self.bases.items) (omega (arith, ge, all))))
]

pub returns-clause-only : goal.returns-clause-only
returns-clause-only c held m here =
    let self = c.args.self.now in
    c.lists.invariant.only m (checked self c.lists.list m (omega (arith, c.lists-test.false, c.len-list-end.ensures, self.starts.ok.0)) here) here

pub returns-clause-classes : goal.returns-clause-classes
returns-clause-classes c held m here =
    let self = c.args.self.now in
    c.lists.invariant.classes m (checked self c.lists.list m (omega (arith, c.lists-test.false, c.len-list-end.ensures, self.starts.ok.0)) here) here

pub returns-clause-begins : goal.returns-clause-begins
returns-clause-begins c held m here =
    let self = c.args.self.now in
    c.lists.invariant.begins m (checked self c.lists.list m (omega (arith, c.lists-test.false, c.len-list-end.ensures, self.starts.ok.0)) here) here
