-- What the rows of the chain say of their rules.
use Rattle.std.proofs.Common.{◌≡◌, ◌≢◌, ℕ, zero, suc, ◌+◌, ◌<◌, ◌≤◌, ◌⊎◌, ⊎_elim, Bool, true, List, [], ◌∷◌, ◌++◌, length, map, set, Option, None, Some, slice_get, slice_index_or, refl, sym, ap, ◌∙◌, inl, inr, arith, Bor}
use Rattle.std.proofs.lemmas.Bool.{cases_lt}
use Rattle.std.specs.Prelude.{option_copied, is_some, unwrap_or}
use Rattle.std.proofs.Props.{props}
use Rattle.std.proofs.Math.Logic.{∥∥₁_elim}
use Rattle.std.proofs.lemmas.Option.{none-some, slice_get_cases, slice_get_within, same_Some}
use Rattle.lrlex_rules.specs.RuleParts.{RuleParts}
use Rattle.lrlex_table.specs.Chain.{list_of, name_of, no_name}
use Rattle.lrlex_table.specs.declared.chain.Chain.{Chain}
use Rattle.lrlex_table.specs.declared.marks.Name.{Name}
use Rattle.lrlex_rules.specs.Active.{rule_at}
use Rattle.lrlex_rules.specs.Kinds.{kind_of, IsPlain}
use Rattle.lrlex_definition.specs.RowKinds.{own_kind, IsRowKind}
use Rattle.lrlex_rules.specs.RuleLists.{list_in}
use Rattle.lrlex_definition.specs.RuleTable.{definition_by}
use Rattle.lrlex_definition.specs.declared.row_kinds.RowKind.{RowKind}
use Rattle.lrlex_definition.specs.declared.rule_table.RuleTable.{RuleTable}
use Rattle.lrlex_definition.proofs.KindLemmas.{plain_at}

copied_some : (o : Option (Bor Chain)) (c : Chain) → option_copied o ≡ Some c → (x : Bor Chain) × (o ≡ Some x) × (x.now ≡ c)
copied_some None c is = absurd (none-some c is)
copied_some (Some x) c is = (x, refl, same_Some x.now c is)

-- row r of the chain has the kind w
module _ {S : Type 0} (number : S → ℕ) (d : RuleTable S) (chain : Option (Bor Chain)) (of : option_copied chain ≡ slice_get d.chains.items 0) (r : ℕ) (w : RowKind S) (here : slice_get d.row_kinds.items r ≡ Some w) where
  pub the_chain : (x : Bor Chain) × (chain ≡ Some x) × (slice_get d.chains.items 0 ≡ Some x.now)
  the_chain = elim (slice_get_cases d.chains.items 0).1 [
    | inl known ↦
        let it = copied_some chain known.0 (of ∙ known.2) in
        (it.0, it.1, known.2 ∙ ap (λ c. Some c) (sym it.2))
    | inr past ↦
        let none : length d.row_kinds.items ≡ 0 = ∥∥₁_elim d.by_rows (Prim.hlevel props) (λ are. are.0 past.1) in
        absurd (omega (arith, none, slice_get_within d.row_kinds.items r w here))
  ]

  pub row_list : w.list ≡ list_of the_chain.0.now r
  row_list = ∥∥₁_elim d.by_rows (Prim.hlevel props) (λ are. (are.1 the_chain.0.now the_chain.2 r w here).list)

  pub row_rule : w.rule ≡ slice_index_or (list_in (map (λ v. v.items) d.lists.items) (list_of the_chain.0.now r)) (name_of the_chain.0.now r) 0
  row_rule = ∥∥₁_elim d.by_rows (Prim.hlevel props) (λ are. (are.1 the_chain.0.now the_chain.2 r w here).rule)

  pub row_plain : w.rule < length d.rules.items → w.plain ≡ true → IsPlain number (own_kind w).id (rule_at (definition_by number d) w.rule)
  row_plain lt plain = record {
    has_id = ∥∥₁_elim d.by_rows (Prim.hlevel props) (λ are. (plain_at number d w.rule (own_kind w) lt (are.1 the_chain.0.now the_chain.2 r w here).kind plain).has_id);
    gives = ∥∥₁_elim d.by_rows (Prim.hlevel props) (λ are. (plain_at number d w.rule (own_kind w) lt (are.1 the_chain.0.now the_chain.2 r w here).kind plain).gives);
    target = ∥∥₁_elim d.by_rows (Prim.hlevel props) (λ are. (plain_at number d w.rule (own_kind w) lt (are.1 the_chain.0.now the_chain.2 r w here).kind plain).target);
  }

-- ---- lists of them, as they are made and set

-- where a list has y in place i, or behind its end, an element is y or one of before
pub set_read : {X : Type 0} (xs : List X) (i r : ℕ) (y w : X) → slice_get (set xs i y) r ≡ Some w → ((r ≡ i) × (y ≡ w)) ⊎ ((r ≢ i) × (slice_get xs r ≡ Some w))
set_read [] i r y w e = absurd (none-some w e)
set_read (x ∷ xs) zero zero y w e = inl (refl, same_Some y w e)
set_read (x ∷ xs) zero (suc r) y w e = inr (λ same. absurd (omega (arith, same)), e)
set_read (x ∷ xs) (suc i) zero y w e = inr (λ same. absurd (omega (arith, same)), e)
set_read (x ∷ xs) (suc i) (suc r) y w e = ⊎_elim (λ p. inl (ap suc p.0, p.1)) (λ p. inr (λ same. p.0 (omega (arith, same)), p.1)) (set_read xs i r y w e)

pub push_read : {X : Type 0} (xs : List X) (r : ℕ) (y w : X) → slice_get (xs ++ y ∷ []) r ≡ Some w → ((r ≡ length xs) × (y ≡ w)) ⊎ (slice_get xs r ≡ Some w)
push_read [] zero y w e = inl (refl, same_Some y w e)
push_read [] (suc r) y w e = inr e
push_read (x ∷ xs) zero y w e = inr e
push_read (x ∷ xs) (suc r) y w e = ⊎_elim (λ p. inl (ap suc p.0, p.1)) (λ p. inr p) (push_read xs r y w e)

-- each of the rows is of its list and rule, and those before row n have the kinds of these rules
abbrev pub AreSet : {S : Type 0} → List (RuleParts S) → List (List ℕ) → List Name → ℕ → List (RowKind S) → Type 0
AreSet rules lists names n rows =
    (r : ℕ) (w : RowKind _) → slice_get rows r ≡ Some w →
    (w.list ≡ (slice_index_or names r no_name).list)
    × (w.rule ≡ slice_index_or (list_in lists (slice_index_or names r no_name).list) (slice_index_or names r no_name).pattern 0)
    × (r < n → (x : RuleParts _) → slice_get rules w.rule ≡ Some x → own_kind w ≡ kind_of x)

-- row n has its kind too
pub set_next : {S : Type 0} (rules : List (RuleParts S)) (lists : List (List ℕ)) (names : List Name) (n : ℕ) (rows : List (RowKind S)) (old new : RowKind S) → AreSet rules lists names n rows → slice_get rows n ≡ Some old →
    new.list ≡ old.list → new.rule ≡ old.rule → ((x : RuleParts S) → slice_get rules old.rule ≡ Some x → own_kind new ≡ kind_of x) → AreSet rules lists names (n + 1) (set rows n new)
set_next rules lists names n rows old new are here list rule kind r w e =
    let was = are n old here in
    elim (set_read rows n r new w e) [
      | inl it ↦ (
        ap (λ (v : RowKind _). v.list) (sym it.1) ∙ list ∙ was.0 ∙ ap (λ i. (slice_index_or names i no_name).list) (sym it.0),
        ap (λ (v : RowKind _). v.rule) (sym it.1) ∙ rule ∙ was.1 ∙ ap (λ i. slice_index_or (list_in lists (slice_index_or names i no_name).list) (slice_index_or names i no_name).pattern 0) (sym it.0),
        λ lt x at. ap own_kind (sym it.1) ∙ kind x (ap (slice_get rules) (sym rule ∙ ap (λ (v : RowKind _). v.rule) it.1) ∙ at),
      )
      | inr other ↦
          let it = are r w other.1 in (
            it.0,
            it.1,
            λ lt x at. elim (cases_lt r n) [
              | inl before ↦ it.2 before x at
              | inr last ↦ absurd (other.0 (omega arith))
            ],
          )
    ]

-- all of them are set
pub set_all : {S : Type 0} (rules : List (RuleParts S)) (lists : List (List ℕ)) (chain : Chain) (n : ℕ) (rows : List (RowKind S)) → AreSet rules lists chain.names.items n rows → length rows ≤ n →
    (r : ℕ) (w : RowKind S) → slice_get rows r ≡ Some w → IsRowKind rules lists (list_of chain r) (name_of chain r) w
set_all rules lists chain n rows are all r w e =
    let it = are r w e in
    let lt = slice_get_within rows r w e in
    record { list = it.0; rule = it.1; kind = it.2 (omega (arith, all, lt)) }

-- what is put behind them is set as well
pub set_more : {S : Type 0} (rules : List (RuleParts S)) (lists : List (List ℕ)) (names : List Name) (rows : List (RowKind S)) (name : Name) (new : RowKind S) → AreSet rules lists names (length rows) rows → name ≡ slice_index_or names (length rows) no_name →
    new.list ≡ name.list → new.rule ≡ slice_index_or (list_in lists name.list) name.pattern 0 → ((x : RuleParts S) → slice_get rules new.rule ≡ Some x → own_kind new ≡ kind_of x) →
    AreSet rules lists names (length rows + 1) (rows ++ new ∷ [])
set_more rules lists names rows name new are named list rule kind r w e =
    elim (push_read rows r new w e) [
      | inl it ↦
          let here : name ≡ slice_index_or names r no_name = named ∙ ap (λ i. slice_index_or names i no_name) (sym it.0) in (
            ap (λ (v : RowKind _). v.list) (sym it.1) ∙ list ∙ ap (λ (m : Name). m.list) here,
            ap (λ (v : RowKind _). v.rule) (sym it.1) ∙ rule ∙ ap (λ (m : Name). slice_index_or (list_in lists m.list) m.pattern 0) here,
            λ lt x at. ap own_kind (sym it.1) ∙ kind x (ap (λ (v : RowKind _). slice_get rules v.rule) it.1 ∙ at),
          )
      | inr other ↦
          let it = are r w other in
          (it.0, it.1, λ lt x at. it.2 (slice_get_within rows r w other) x at)
    ]

-- rows that have kinds are of their lists and rules
pub set_none : {S : Type 0} (old rules : List (RuleParts S)) (lists : List (List ℕ)) (chain : Chain) (rows : List (RowKind S)) →
    ((r : ℕ) (w : RowKind S) → slice_get rows r ≡ Some w → IsRowKind old lists (list_of chain r) (name_of chain r) w) → AreSet rules lists chain.names.items 0 rows
set_none old rules lists chain rows are r w e = let it = are r w e in (it.list, it.rule, λ lt. absurd (omega (arith, lt)))

-- a row that has what a kind says has that kind
pub kind_again : {S : Type 0} (id : Option S) (plain : Bool) (rule list : ℕ) (other : S) → own_kind (record { rule = rule; id = unwrap_or id other; named = is_some id; plain = plain; list = list }) ≡ record { id = id; plain = plain }
kind_again None plain rule list other = refl
kind_again (Some x) plain rule list other = refl
