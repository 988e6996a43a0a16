-- The dead ends that are known.
use Rattle.std.proofs.Common.{◌≡◌, ◌≢◌, ℕ, zero, suc, ◌+◌, ◌-◌, ◌*◌, ◌%◌, ◌<◌, ◌≤◌, Bool, true, false, cond, List, length, take, drop, Option, Some, None, is_some, Result, Ok, Err, is_err, OnOk, OnErr, IfSome, refl, sym, ap, ◌∙◌, subst, inl, inr, arith}
use Rattle.std.specs.HashMap.{HashMap, get}
use Rattle.std.specs.Map.{lookup}
use Rattle.std.proofs.lemmas.Bool.{true≢false, cases_Bool, cases_lt, cond-true, cond-false, and_parts, eqb-true, false_from_ne_true}
use Rattle.std.proofs.lemmas.Option.{same_Some}
use Rattle.std.proofs.lemmas.Nat.{mod_below}
use Rattle.std.proofs.Math.Nat.{div-add-mod}
use Rattle.lrlex_table.specs.DeadEnds.{is_same_end, more_of, AreDeadEndsIn, AreUpTo, AreWithin, HasNoneFrom, IsDeadEndIn, IsDue, IsStop, IsVain, IsWithin}
use Rattle.lrlex_table.specs.Reach.{row_after, IsReach}
use Rattle.lrlex_table.specs.Work.{reach_of}
use Rattle.lrlex_table.specs.Table.{next_rows}
use Rattle.lrlex_table.specs.declared.table.Table.{Table}
use Rattle.lrlex_table.specs.declared.tables.Tables.{Tables}
use Rattle.lrlex_table.specs.declared.dead_ends.DeadEnd.{DeadEnd}
use Rattle.lrlex_table.proofs.DeadEndLemmas.{same_end}
use Rattle.lrlex_table.proofs.WorkLemmas.{reach_looks}

pub ok_of : {T E P : Type 0} (r : Result T E) → is_err r ≡ false → OnOk r P → P
ok_of (Ok v) is p = p
ok_of (Err e) is p = absurd (true≢false is)

pub err_of : {T E P : Type 0} (r : Result T E) → is_err r ≡ true → OnErr r P → P
err_of (Ok v) is p = absurd (true≢false (sym is))
err_of (Err e) is p = p

pub same_key : (x y : ℕ × ℕ × ℕ × ℕ) → is_same_end x y ≡ true → (x.0 ≡ y.0) × (x.1 ≡ y.1) × (x.2 ≡ y.2) × (x.3 ≡ y.3)
same_key x y e =
    let a = and_parts _ _ e in
    let b = and_parts _ _ a.0 in
    let c = and_parts _ _ b.0 in
    (eqb-true _ _ c.0, eqb-true _ _ c.1, eqb-true _ _ b.1, eqb-true _ _ a.1)

-- the dead end was put among those that are known
abbrev pub Puts : {S : Type 0} → (old new : HashMap (ℕ × ℕ × ℕ × ℕ) ℕ S) → DeadEnd → Type 0
Puts old new e =
    (q : ℕ × ℕ × ℕ × ℕ) → get is_same_end new q ≡ cond (is_same_end (e.list, e.part, e.row, e.place) q) (Some e.more) (get is_same_end old q)

module _ {S : Type 0} (old new : HashMap (ℕ × ℕ × ℕ × ℕ) ℕ S) (same : new.entries ≡ old.entries) where
  pub all_same : (list part row place : ℕ) → more_of new list part row place ≡ more_of old list part row place
  all_same list part row place = ap (lookup (is_same_end (list, part, row, place))) same

  pub dead_ends_stay : (lists : List Tables) (text : List ℕ) → AreDeadEndsIn lists text old → AreDeadEndsIn lists text new
  dead_ends_stay lists text are list part row place more there = are list part row place more (sym (all_same list part row place) ∙ there)

  pub up_to_stays : (k to : ℕ) → AreUpTo k old → k ≤ to → AreUpTo to new
  up_to_stays k to are below list part row place after = all_same list part row place ∙ are list part row place (omega arith)

  pub within_stays : (lists : List Tables) (text : List ℕ) → AreWithin lists text old → AreWithin lists text new
  within_stays lists text are list part row place more there = are list part row place more (sym (all_same list part row place) ∙ there)

-- what is known once a dead end was put there
module _ {S : Type 0} (old new : HashMap (ℕ × ℕ × ℕ × ℕ) ℕ S) (e : DeadEnd) (put : Puts old new e) where
  abbrev key : ℕ × ℕ × ℕ × ℕ
  key = (e.list, e.part, e.row, e.place)

  pub unchanged : (list part row place : ℕ) → is_same_end key (list, part, row, place) ≡ false → more_of new list part row place ≡ more_of old list part row place
  unchanged list part row place apart = put (list, part, row, place) ∙ cond-false _ _ _ apart

  pub elsewhere : (list part row place : ℕ) → place ≢ e.place → more_of new list part row place ≡ more_of old list part row place
  elsewhere list part row place apart =
      unchanged list part row place (false_from_ne_true _ (λ same. apart (sym (same_key key (list, part, row, place) same).3)))

  pub other_parts : (list part row place : ℕ) → part ≢ e.part → more_of new list part row place ≡ more_of old list part row place
  other_parts list part row place apart =
      unchanged list part row place (false_from_ne_true _ (λ same. apart (sym (same_key key (list, part, row, place) same).1)))

  pub dead_ends_after : (lists : List Tables) (text : List ℕ) → AreDeadEndsIn lists text old → IsDeadEndIn lists text e → AreDeadEndsIn lists text new
  dead_ends_after lists text are is list part row place more there =
      elim (cases_Bool (is_same_end key (list, part, row, place))) [
        | inl same ↦
            let k = same_key key (list, part, row, place) same in
            let m : e.more ≡ more = same_Some _ _ (sym (cond-true _ _ _ same) ∙ sym (put (list, part, row, place)) ∙ there) in
            λ t at. subst (IsVain t row (drop place text)) m (same_end lists text e list part row place k.0 k.1 k.2 k.3 is t at)
        | inr apart ↦ are list part row place more (sym (unchanged list part row place apart) ∙ there)
      ]

  pub within_after : (lists : List Tables) (text : List ℕ) → AreWithin lists text old → IsWithin lists text e.list e.part e.row e.place → AreWithin lists text new
  within_after lists text are is list part row place more there =
      elim (cases_Bool (is_same_end key (list, part, row, place))) [
        | inl same ↦
            let k = same_key key (list, part, row, place) same in
            subst (IsWithin lists text list part row) k.3
            (subst (λ r. IsWithin lists text list part r e.place) k.2
            (subst (λ p. IsWithin lists text list p e.row e.place) k.1
            (subst (λ l. IsWithin lists text l e.part e.row e.place) k.0 is)))
        | inr apart ↦ are list part row place more (sym (unchanged list part row place apart) ∙ there)
      ]

  pub up_to_after : (k to : ℕ) → AreUpTo k old → k ≤ to → e.place ≤ to → AreUpTo to new
  up_to_after k to are below there list part row place after =
      elsewhere list part row place (λ same. absurd (omega (arith, same))) ∙ are list part row place (omega arith)

-- what is found is a dead end
pub found_vain : {S : Type 0} (known : HashMap (ℕ × ℕ × ℕ × ℕ) ℕ S) (lists : List Tables) (text : List ℕ) (list part row place : ℕ) (found : Option ℕ) →
    AreDeadEndsIn lists text known → found ≡ more_of known list part row place →
    IfSome found (λ more. IsDeadEndIn lists text (record { list = list; part = part; row = row; place = place; more = more }))
found_vain known lists text list part row place None are is = tt
found_vain known lists text list part row place (Some more) are is = are list part row place more (sym is)

-- where a walk has come past no dead end that is known
module _ {S : Type 0} (known : HashMap (ℕ × ℕ × ℕ × ℕ) ℕ S) (t : Table) (list part place : ℕ) (rest : List ℕ) where
  abbrev pub Unknown : ℕ → Type 0
  Unknown n =
      (i : ℕ) → i < n → (place + i) % 64 ≡ 0 → more_of known list part (row_after (next_rows t) t.start (take i rest)) (place + i) ≡ None

  pub unknown_more : (n r : ℕ) → Unknown n → r ≡ row_after (next_rows t) t.start (take n rest) → ((place + n) % 64 ≡ 0 → more_of known list part r (place + n) ≡ None) → Unknown (n + 1)
  unknown_more n r u is here i lt due = elim (cases_lt i n) [
    | inl less ↦ u i less due
    | inr ge ↦
        let same : n ≡ i = omega arith in
        subst (λ m. more_of known list part (row_after (next_rows t) t.start (take m rest)) (place + m) ≡ None) same
        (ap (λ q. more_of known list part q (place + n)) (sym is) ∙ here (ap (λ m. (place + m) % 64) same ∙ due))
  ]

  -- it stops where the walk ends by itself
  pub stop_by_itself : (looked : ℕ) → IsReach t rest looked → Unknown looked → IsStop known list part t place rest looked
  stop_by_itself looked reach u = record { within = reach.within; unknown = λ i lt inside due. u i lt due; stops = inl reach }

  -- the same behind the last byte, whose end no dead end is at
  pub stop_at_end : (looked : ℕ) → looked ≡ length rest + 1 → IsReach t rest looked → Unknown (length rest) → IsStop known list part t place rest looked
  stop_at_end looked all reach u = record { within = reach.within; unknown = λ i lt inside due. u i inside due; stops = inl reach }

  pub stop_at_known : (looked r more : ℕ) → looked ≤ length rest → Unknown looked → r ≡ row_after (next_rows t) t.start (take looked rest) → more_of known list part r (place + looked) ≡ Some more →
      IsStop known list part t place rest looked
  stop_at_known looked r more le u is there =
      record { within = omega arith; unknown = λ i lt inside due. u i lt due; stops = inr (more, ap (λ q. more_of known list part q (place + looked)) (sym is) ∙ there) }

-- whether a place is a multiple of 64, where so many bytes later is the next one
module _ (n gap next : ℕ) (is : n + gap ≡ 64 * next) (less : gap < 64) where
  aligned : gap ≡ 0 → n % 64 ≡ 0
  aligned none = omega (arith, is, none, div-add-mod n 64, mod_below n 64 (omega arith))

  unaligned : n % 64 ≡ 0 → gap ≡ 0
  unaligned none = omega (arith, is, less, none, div-add-mod n 64)

-- A walk from this place has come so far: up to the next multiple of 64 it isn't farther than 128 bytes past its match, and 64 for
-- each dead end that was kept.
pub record IsPaid (place at len old new : ℕ) : Type 0 where
  pub next : ℕ
  pub gap : ℕ
  pub is : place + at + gap ≡ 64 * next
  pub less : gap < 64
  pub grown : old ≤ new
  pub paid : at + gap + 64 * old ≤ len + 128 + 64 * new

first_step : (place gap next : ℕ) → place + 0 + gap ≡ 64 * next → gap < 64 → (len old : ℕ) → IsPaid (suc place) 0 len old old
first_step place zero next is less len old = record { next = next + 1; gap = 63; is = omega (arith, is); less = omega arith; grown = omega arith; paid = omega arith }
first_step place (suc gap) next is less len old =
    record { next = next; gap = gap; is = omega (arith, is); less = omega arith; grown = omega arith; paid = omega arith }

pub paid_first : (place len old : ℕ) → IsPaid place 0 len old old
paid_first zero len old = record { next = 0; gap = 0; is = refl; less = omega arith; grown = omega arith; paid = omega arith }
paid_first (suc place) len old =
    let b = paid_first place len old in
    first_step place b.gap b.next b.is b.less len old

module _ (place at len old new after : ℕ) (due : Bool) (is_due : IsDue (place + at) (at - len) due) (kept : due ≡ true → after ≡ new + 1) (not_kept : due ≡ false → after ≡ new) where
  by_gap : (gap next : ℕ) → place + at + gap ≡ 64 * next → gap < 64 → old ≤ new → at + gap + 64 * old ≤ len + 128 + 64 * new → IsPaid place (at + 1) len old after
  by_gap zero next is less grown paid = elim (cases_Bool due) [
    | inl there ↦
        record { next = next + 1; gap = 63; is = omega (arith, is); less = omega arith; grown = omega (arith, kept there); paid = omega (arith, kept there, paid) }
    | inr isnt ↦
        let near : at - len ≤ 64 = is_due.1 isnt (aligned (place + at) zero next is less refl) in
        record { next = next + 1; gap = 63; is = omega (arith, is); less = omega arith; grown = omega (arith, not_kept isnt); paid = omega (arith, not_kept isnt, near, grown) }
  ]
  by_gap (suc gap) next is less grown paid = elim (cases_Bool due) [
    | inl there ↦ absurd (omega (arith, unaligned (place + at) (suc gap) next is less (is_due.0 there).0))
    | inr isnt ↦ record { next = next; gap = gap; is = omega (arith, is); less = omega arith; grown = omega (arith, not_kept isnt); paid = omega (arith, not_kept isnt, paid) }
  ]

  pub paid_step : IsPaid place at len old new → IsPaid place (at + 1) len old after
  paid_step b = by_gap b.gap b.next b.is b.less b.grown b.paid

-- what is true where something isn't forgotten later was true before
pub not_before : (before after : Bool) → (before ≡ true → after ≡ true) → after ≡ false → before ≡ false
not_before before after kept is = false_from_ne_true before (λ was. true≢false (sym (kept was) ∙ is))

-- where no dead end is known from the place on, a walk looks at all cells up to its end
pub stop_is_reach : {S : Type 0} (known : HashMap (ℕ × ℕ × ℕ × ℕ) ℕ S) (t : Table) (list part place : ℕ) (rest : List ℕ) (looked : ℕ) → IsStop known list part t place rest looked →
    HasNoneFrom known list part place → looked ≡ reach_of t rest
stop_is_reach known t list part place rest looked is none = elim is.stops [
  | inl reach ↦ reach_looks t rest looked reach
  | inr there ↦
      let row = row_after (next_rows t) t.start (take looked rest) in
      absurd (true≢false (sym (ap is_some (sym (none row (place + looked) (omega arith)) ∙ there.1))))
]
