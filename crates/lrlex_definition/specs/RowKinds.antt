-- What lexing needs of a rule, for each row of the chain in which a match of the rule ends.
use Rattle.std.specs.Prelude.{◌≡◌, ℕ, List, length, Some, None, slice_get, slice_index_or, if◌then◌else◌}
use Rattle.lrlex_rules.specs.RuleParts.{RuleParts}
use Rattle.lrlex_table.specs.Chain.{list_of, name_of}
use Rattle.lrlex_table.specs.declared.chain.Chain.{Chain}
use Rattle.lrlex_rules.specs.Kinds.{kind_of}
use Rattle.lrlex_rules.specs.RuleLists.{list_in}
use Rattle.lrlex_rules.specs.declared.kinds.Kind.{Kind}
use Rattle.lrlex_definition.specs.declared.row_kinds.RowKind.{RowKind}

-- the kind that it has
abbrev pub own_kind : {S : Type 0} → RowKind S → Kind S
own_kind w = record {
  id = if w.named then Some w.id else None;
  plain = w.plain;
}

-- of a row of list l, in which pattern k of the list wins: its rule is at place k of the list, and its kind is the rule's
pub record IsRowKind {S : Type 0} (rules : List (RuleParts S)) (lists : List (List ℕ)) (l k : ℕ) (w : RowKind S) : Type 0 where
  pub list : w.list ≡ l
  pub rule : w.rule ≡ slice_index_or (list_in lists l) k 0
  pub kind : (r : RuleParts S) → slice_get rules w.rule ≡ Some r → own_kind w ≡ kind_of r

-- these are of the rows of the chain, if there is one
abbrev pub AreRowKinds : {S : Type 0} → List (RuleParts S) → List (List ℕ) → List Chain → List (RowKind S) → Type 0
AreRowKinds rules lists chains rows =
    (slice_get chains 0 ≡ None → length rows ≡ 0)
    × ((c : Chain) → slice_get chains 0 ≡ Some c → (r : ℕ) (w : RowKind _) → slice_get rows r ≡ Some w → IsRowKind rules lists (list_of c r) (name_of c r) w)
