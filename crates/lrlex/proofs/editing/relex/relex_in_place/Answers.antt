use Rattle.std.proofs.Common.{◌≡◌, ◌^◌, ◌<◌, ◌≤◌, ◌-◌, true, length, drop, sym, ap, ap₂, subst, ◌∙◌, arith}
use Rattle.std.proofs.lemmas.Option.{none-some}
use Rattle.std.proofs.lemmas.Bool.{true≢false}
use Rattle.lrlex_rules.specs.Active.{is_state}
use Rattle.lrlex.specs.Progress.{HasRecut, HasReplacedTail, HasReplacedMiddle}
use Rattle.lrlex_definition.specs.RuleTable.{definition_by}
use Rattle.lrlex.proofs.RecutLemmas.{old_looks, old_order, old_sorted}
use Rattle.lrlex.proofs.InPlaceLemmas.{stateless_run, stateless_looks, stateless_counts, met_within, met_last, met_items, met_bounds, between_run, between_looks, between_counts, behind_run, behind_looks, behind_counts, between_recut, behind_recut}
use Rattle.lrlex_base.specs.Spans.{as_span}
use Rattle.lrlex_boundaries.specs.Boundaries.{boundary_at}
use Rattle.lrlex_table.specs.Reach.{IsText}
use Rattle.lrlex_table.proofs.ByteLemmas.{are_bytes}
use Rattle.lrlex.specs.Changes.{HasChanged, change, none_of}
use Rattle.lrlex.specs.Moves.{items_from}
use Rattle.lrlex.specs.Relex.{AreCountsOf}
use Rattle.lrlex.specs.Work.{HasLinearRecut}
use Rattle.lrlex.proofs.LinearLemmas.{no_recut}
use Rattle.lrlex.specs.Searches.{asks_by}
use Rattle.lrlex.specs.Views.{items_by}
use Rattle.lrlex.specs.declared.editing.changes.Change.{Change}
use Rattle.lrlex.specs.declared.editing.changes.Changed.{Changed}
use Rattle.lrlex.proofs.ChangeLemmas.{stateless_changed, between_changed, behind_changed, told}
use Rattle.lrlex.proofs.editing.relex.relex_in_place.Goals as goal

pub returns-then-not-is_state-clause-run : goal.returns-then-not-is_state-clause-run
returns-then-not-is_state-clause-run g c = stateless_run g.S.Numbered.number g.X.Lexeme.seen c.args.table.now c.args.lexed.now.items.items c.args.lexed.now.boundaries c.args.lexed.now.ahead.items c.args.edit.now.removed c.args.edit.now.put.now c.args.new.now c.requires.known (sym c.if-not-is_state.ensures)

pub returns-then-not-is_state-clause-looks : goal.returns-then-not-is_state-clause-looks
returns-then-not-is_state-clause-looks g c = stateless_looks g.S.Numbered.number g.X.Lexeme.seen c.args.table.now c.args.lexed.now.items.items c.args.lexed.now.boundaries c.args.lexed.now.ahead.items c.args.edit.now.removed c.args.edit.now.put.now c.args.new.now c.requires.known (sym c.if-not-is_state.ensures)

pub returns-then-not-is_state-clause-counts : goal.returns-then-not-is_state-clause-counts
returns-then-not-is_state-clause-counts g c =
    let none : c.none.result.pieces.inserted ≡ 0 = ap (λ (x : Changed). x.pieces.inserted) c.none.ensures in
    subst (λ n. AreCountsOf (definition_by g.S.Numbered.number c.args.table.now) (asks_by c.args.table.now c.args.new.now) c.args.lexed.now.boundaries c.args.lexed.now.ahead.items (as_span c.args.edit.now.removed) c.args.edit.now.put.now c.args.new.now c.args.lexed.now.boundaries 0 n) (sym none)
    (stateless_counts g.S.Numbered.number g.X.Lexeme.seen c.args.table.now c.args.lexed.now.items.items c.args.lexed.now.boundaries c.args.lexed.now.ahead.items c.args.edit.now.removed c.args.edit.now.put.now c.args.new.now c.requires.known (sym c.if-not-is_state.ensures))

pub replace_middle-requires-clause-first : goal.replace_middle-requires-clause-first
replace_middle-requires-clause-first g c =
    let initial : is_state (definition_by g.S.Numbered.number c.args.table.now) 0 ≡ true = sym c.is_state.ensures ∙ c.if-not-is_state.false in
    let a = c.in_ok-recut.recut in
    let h : HasRecut g.S.Numbered.number g.X.Lexeme.seen c.args.table.now c.args.lexed.now.items.items c.args.lexed.now.boundaries c.args.lexed.now.ahead.items c.args.edit.now.removed c.args.edit.now.put.now c.args.new.now a = rw (sym c.as_slice.ensures.value, sym c.tidy.ensures, sym c.as_slice-2.ensures.value) c.in_ok-recut.ensures in
    rw c.tidy.ensures (h.first, h.before)

pub replace_middle-requires-clause-within : goal.replace_middle-requires-clause-within
replace_middle-requires-clause-within g c =
    let initial : is_state (definition_by g.S.Numbered.number c.args.table.now) 0 ≡ true = sym c.is_state.ensures ∙ c.if-not-is_state.false in
    let a = c.in_ok-recut.recut in
    let h : HasRecut g.S.Numbered.number g.X.Lexeme.seen c.args.table.now c.args.lexed.now.items.items c.args.lexed.now.boundaries c.args.lexed.now.ahead.items c.args.edit.now.removed c.args.edit.now.put.now c.args.new.now a = rw (sym c.as_slice.ensures.value, sym c.tidy.ensures, sym c.as_slice-2.ensures.value) c.in_ok-recut.ensures in
    let j = c.in-Some.met in
    let m = h.met j c.in-Some.is in
    rw c.tidy.ensures (met_within g.S.Numbered.number g.X.Lexeme.seen c.args.table.now c.args.lexed.now.items.items c.args.lexed.now.boundaries c.args.lexed.now.ahead.items c.args.edit.now.removed c.args.edit.now.put.now c.args.new.now c.requires.known initial a h j m)

pub replace_middle-requires-clause-sorted : goal.replace_middle-requires-clause-sorted
replace_middle-requires-clause-sorted g c =
    let initial : is_state (definition_by g.S.Numbered.number c.args.table.now) 0 ≡ true = sym c.is_state.ensures ∙ c.if-not-is_state.false in
    let a = c.in_ok-recut.recut in
    let h : HasRecut g.S.Numbered.number g.X.Lexeme.seen c.args.table.now c.args.lexed.now.items.items c.args.lexed.now.boundaries c.args.lexed.now.ahead.items c.args.edit.now.removed c.args.edit.now.put.now c.args.new.now a = rw (sym c.as_slice.ensures.value, sym c.tidy.ensures, sym c.as_slice-2.ensures.value) c.in_ok-recut.ensures in
    rw c.tidy.ensures (old_sorted g.S.Numbered.number g.X.Lexeme.seen c.args.table.now c.args.lexed.now.items.items c.args.lexed.now.boundaries c.args.lexed.now.ahead.items c.args.edit.now.removed c.args.edit.now.put.now c.args.new.now c.requires.known initial)

pub replace_middle-requires-clause-numbers : goal.replace_middle-requires-clause-numbers
replace_middle-requires-clause-numbers g c =
    let initial : is_state (definition_by g.S.Numbered.number c.args.table.now) 0 ≡ true = sym c.is_state.ensures ∙ c.if-not-is_state.false in
    let a = c.in_ok-recut.recut in
    let h : HasRecut g.S.Numbered.number g.X.Lexeme.seen c.args.table.now c.args.lexed.now.items.items c.args.lexed.now.boundaries c.args.lexed.now.ahead.items c.args.edit.now.removed c.args.edit.now.put.now c.args.new.now a = rw (sym c.as_slice.ensures.value, sym c.tidy.ensures, sym c.as_slice-2.ensures.value) c.in_ok-recut.ensures in
    rw c.tidy.ensures (old_looks g.S.Numbered.number g.X.Lexeme.seen c.args.table.now c.args.lexed.now.items.items c.args.lexed.now.boundaries c.args.lexed.now.ahead.items c.args.edit.now.removed c.args.edit.now.put.now c.args.new.now c.requires.known initial).len

pub replace_middle-requires-clause-last : goal.replace_middle-requires-clause-last
replace_middle-requires-clause-last g c =
    let initial : is_state (definition_by g.S.Numbered.number c.args.table.now) 0 ≡ true = sym c.is_state.ensures ∙ c.if-not-is_state.false in
    let a = c.in_ok-recut.recut in
    let h : HasRecut g.S.Numbered.number g.X.Lexeme.seen c.args.table.now c.args.lexed.now.items.items c.args.lexed.now.boundaries c.args.lexed.now.ahead.items c.args.edit.now.removed c.args.edit.now.put.now c.args.new.now a = rw (sym c.as_slice.ensures.value, sym c.tidy.ensures, sym c.as_slice-2.ensures.value) c.in_ok-recut.ensures in
    let j = c.in-Some.met in
    let m = h.met j c.in-Some.is in
    (h.some, rw c.tidy.ensures (met_last g.S.Numbered.number g.X.Lexeme.seen c.args.table.now c.args.lexed.now.items.items c.args.lexed.now.boundaries c.args.lexed.now.ahead.items c.args.edit.now.removed c.args.edit.now.put.now c.args.new.now c.requires.known initial a h j m))

pub replace_middle-requires-clause-movable : goal.replace_middle-requires-clause-movable
replace_middle-requires-clause-movable g c =
    let initial : is_state (definition_by g.S.Numbered.number c.args.table.now) 0 ≡ true = sym c.is_state.ensures ∙ c.if-not-is_state.false in
    let a = c.in_ok-recut.recut in
    let h : HasRecut g.S.Numbered.number g.X.Lexeme.seen c.args.table.now c.args.lexed.now.items.items c.args.lexed.now.boundaries c.args.lexed.now.ahead.items c.args.edit.now.removed c.args.edit.now.put.now c.args.new.now a = rw (sym c.as_slice.ensures.value, sym c.tidy.ensures, sym c.as_slice-2.ensures.value) c.in_ok-recut.ensures in
    let j = c.in-Some.met in
    let m = h.met j c.in-Some.is in
    let small : length c.args.new.now < 2 ^ 64 = omega arith in
    rw c.tidy.ensures (old_order g.S.Numbered.number g.X.Lexeme.seen c.args.table.now c.args.lexed.now.items.items c.args.lexed.now.boundaries c.args.lexed.now.ahead.items c.args.edit.now.removed c.args.edit.now.put.now c.args.new.now c.requires.known initial j m.within, met_items g.S.Numbered.number g.X.Lexeme.seen c.args.table.now c.args.lexed.now.items.items c.args.lexed.now.boundaries c.args.lexed.now.ahead.items c.args.edit.now.removed c.args.edit.now.put.now c.args.new.now c.requires.known initial a h j m small, met_bounds g.S.Numbered.number g.X.Lexeme.seen c.args.table.now c.args.lexed.now.items.items c.args.lexed.now.boundaries c.args.lexed.now.ahead.items c.args.edit.now.removed c.args.edit.now.put.now c.args.new.now c.requires.known initial a h j m small)

pub replace_tail-requires-clause-numbers : goal.replace_tail-requires-clause-numbers
replace_tail-requires-clause-numbers g c =
    let initial : is_state (definition_by g.S.Numbered.number c.args.table.now) 0 ≡ true = sym c.is_state.ensures ∙ c.if-not-is_state.false in
    let a = c.in_ok-recut.recut in
    let h : HasRecut g.S.Numbered.number g.X.Lexeme.seen c.args.table.now c.args.lexed.now.items.items c.args.lexed.now.boundaries c.args.lexed.now.ahead.items c.args.edit.now.removed c.args.edit.now.put.now c.args.new.now a = rw (sym c.as_slice.ensures.value, sym c.tidy.ensures, sym c.as_slice-2.ensures.value) c.in_ok-recut.ensures in
    rw c.tidy.ensures (old_looks g.S.Numbered.number g.X.Lexeme.seen c.args.table.now c.args.lexed.now.items.items c.args.lexed.now.boundaries c.args.lexed.now.ahead.items c.args.edit.now.removed c.args.edit.now.put.now c.args.new.now c.requires.known initial).len

pub returns-in_ok-replace_tail-in-None-clause-run : goal.returns-in_ok-replace_tail-in-None-clause-run
returns-in_ok-replace_tail-in-None-clause-run g c =
    let initial : is_state (definition_by g.S.Numbered.number c.args.table.now) 0 ≡ true = sym c.is_state.ensures ∙ c.if-not-is_state.false in
    let a = c.in_ok-recut.recut in
    let h : HasRecut g.S.Numbered.number g.X.Lexeme.seen c.args.table.now c.args.lexed.now.items.items c.args.lexed.now.boundaries c.args.lexed.now.ahead.items c.args.edit.now.removed c.args.edit.now.put.now c.args.new.now a = rw (sym c.as_slice.ensures.value, sym c.tidy.ensures, sym c.as_slice-2.ensures.value) c.in_ok-recut.ensures in
    let is : HasReplacedTail c.args.lexed.now.items.items c.args.lexed.now.boundaries c.args.lexed.now.ahead.items a c.replace_tail.new.items.items c.replace_tail.new.boundaries c.replace_tail.new.ahead.items =
    rw (sym c.tidy.ensures) c.in_ok-replace_tail-in-None.ensures.put in
    behind_run g.S.Numbered.number g.X.Lexeme.seen c.args.table.now c.args.lexed.now.items.items c.args.lexed.now.boundaries c.args.lexed.now.ahead.items c.args.edit.now.removed c.args.edit.now.put.now c.args.new.now c.requires.known initial a h c.in-None.is c.replace_tail.new.items.items c.replace_tail.new.boundaries c.replace_tail.new.ahead.items is

pub returns-in_ok-replace_tail-in-None-clause-looks : goal.returns-in_ok-replace_tail-in-None-clause-looks
returns-in_ok-replace_tail-in-None-clause-looks g c =
    let initial : is_state (definition_by g.S.Numbered.number c.args.table.now) 0 ≡ true = sym c.is_state.ensures ∙ c.if-not-is_state.false in
    let a = c.in_ok-recut.recut in
    let h : HasRecut g.S.Numbered.number g.X.Lexeme.seen c.args.table.now c.args.lexed.now.items.items c.args.lexed.now.boundaries c.args.lexed.now.ahead.items c.args.edit.now.removed c.args.edit.now.put.now c.args.new.now a = rw (sym c.as_slice.ensures.value, sym c.tidy.ensures, sym c.as_slice-2.ensures.value) c.in_ok-recut.ensures in
    let is : HasReplacedTail c.args.lexed.now.items.items c.args.lexed.now.boundaries c.args.lexed.now.ahead.items a c.replace_tail.new.items.items c.replace_tail.new.boundaries c.replace_tail.new.ahead.items =
    rw (sym c.tidy.ensures) c.in_ok-replace_tail-in-None.ensures.put in
    behind_looks g.S.Numbered.number g.X.Lexeme.seen c.args.table.now c.args.lexed.now.items.items c.args.lexed.now.boundaries c.args.lexed.now.ahead.items c.args.edit.now.removed c.args.edit.now.put.now c.args.new.now c.requires.known initial a h c.in-None.is c.replace_tail.new.items.items c.replace_tail.new.boundaries c.replace_tail.new.ahead.items is

pub returns-in_ok-replace_tail-in-None-clause-counts : goal.returns-in_ok-replace_tail-in-None-clause-counts
returns-in_ok-replace_tail-in-None-clause-counts g c =
    let initial : is_state (definition_by g.S.Numbered.number c.args.table.now) 0 ≡ true = sym c.is_state.ensures ∙ c.if-not-is_state.false in
    let a = c.in_ok-recut.recut in
    let h : HasRecut g.S.Numbered.number g.X.Lexeme.seen c.args.table.now c.args.lexed.now.items.items c.args.lexed.now.boundaries c.args.lexed.now.ahead.items c.args.edit.now.removed c.args.edit.now.put.now c.args.new.now a = rw (sym c.as_slice.ensures.value, sym c.tidy.ensures, sym c.as_slice-2.ensures.value) c.in_ok-recut.ensures in
    let is : HasReplacedTail c.args.lexed.now.items.items c.args.lexed.now.boundaries c.args.lexed.now.ahead.items a c.replace_tail.new.items.items c.replace_tail.new.boundaries c.replace_tail.new.ahead.items =
    rw (sym c.tidy.ensures) c.in_ok-replace_tail-in-None.ensures.put in
    let cut : c.between-tiles_behind.result.inserted ≡ length a.progress.boundaries - 1 = ap (λ (x : Change). x.inserted) c.between-tiles_behind.ensures ∙ ap (λ n. n - 1) c.len-cut.ensures in
    subst (λ n. AreCountsOf (definition_by g.S.Numbered.number c.args.table.now) (asks_by c.args.table.now c.args.new.now) c.args.lexed.now.boundaries c.args.lexed.now.ahead.items (as_span c.args.edit.now.removed) c.args.edit.now.put.now c.args.new.now c.replace_tail.new.boundaries a.progress.asked n) (sym cut)
    (behind_counts g.S.Numbered.number g.X.Lexeme.seen c.args.table.now c.args.lexed.now.items.items c.args.lexed.now.boundaries c.args.lexed.now.ahead.items c.args.edit.now.removed c.args.edit.now.put.now c.args.new.now c.requires.known initial a h c.in-None.is c.replace_tail.new.items.items c.replace_tail.new.boundaries c.replace_tail.new.ahead.items is)

pub returns-then-not-is_state-clause-changed : goal.returns-then-not-is_state-clause-changed
returns-then-not-is_state-clause-changed g c known =
    let number = g.S.Numbered.number in
    let seen = g.X.Lexeme.seen in
    let found = c.args.lexed.now.items.items in
    let olds = c.args.lexed.now.boundaries in
    let removed = c.args.edit.now.removed in
    let put = c.args.edit.now.put.now in
    let len : c.len.result ≡ length found = omega (arith, c.len.ensures, c.args.lexed.now.items.ok.0) in
    subst (λ (ch : Changed). HasChanged (definition_by number c.args.table.now) known.text c.args.new.now (as_span removed) put (items_by number seen found) (items_by number seen found) olds olds ch ch.pieces.inserted)
    (sym (c.none.ensures ∙ ap none_of len))
    (stateless_changed number seen c.args.table.now found olds c.args.lexed.now.ahead.items removed put c.args.new.now known (sym c.if-not-is_state.ensures))

pub returns-in_ok-replace_tail-in-None-clause-changed : goal.returns-in_ok-replace_tail-in-None-clause-changed
returns-in_ok-replace_tail-in-None-clause-changed g c known =
    let number = g.S.Numbered.number in
    let seen = g.X.Lexeme.seen in
    let table = c.args.table.now in
    let found = c.args.lexed.now.items.items in
    let olds = c.args.lexed.now.boundaries in
    let numbers = c.args.lexed.now.ahead.items in
    let removed = c.args.edit.now.removed in
    let put = c.args.edit.now.put.now in
    let new = c.args.new.now in
    let initial : is_state (definition_by number table) 0 ≡ true = sym c.is_state.ensures ∙ c.if-not-is_state.false in
    let is_text : IsText new = record { bytes = are_bytes new c.type_inv.new; utf8 = c.utf8.new } in
    let a = c.in_ok-recut.recut in
    let h : HasRecut number seen table found olds numbers removed put new a = rw (sym c.as_slice.ensures.value, sym c.tidy.ensures, sym c.as_slice-2.ensures.value) c.in_ok-recut.ensures in
    let came : c.len-inserted.result ≡ length a.progress.items.items = omega (arith, c.len-inserted.ensures, a.progress.items.ok.0) in
    let cut : c.len-cut.result - 1 ≡ length a.progress.boundaries - 1 = ap (λ n. n - 1) c.len-cut.ensures in
    let is : HasReplacedTail found olds numbers a c.replace_tail.new.items.items c.replace_tail.new.boundaries c.replace_tail.new.ahead.items = rw (sym c.tidy.ensures) c.in_ok-replace_tail-in-None.ensures.put in
    let many : c.len-many.result ≡ length found = omega (arith, c.len-many.ensures, c.args.lexed.now.items.ok.0) in
    let end : c.len-end.result - 1 ≡ length olds - 1 = ap (λ n. n - 1) (c.len-end.ensures ∙ ap length c.tidy.ensures) in
    let of_items : c.between-items_behind.result ≡ change a.first (length found - a.first) (length a.progress.items.items) = c.between-items_behind.ensures ∙ ap₂ (λ l n. change a.first (l - a.first) n) many came in
    let of_tiles : c.between-tiles_behind.result ≡ change a.index ((length olds - 1) - a.index) (length a.progress.boundaries - 1) = c.between-tiles_behind.ensures ∙ ap₂ (λ l n. change a.index (l - a.index) n) end cut in
    told (definition_by number table) known.text new (as_span removed) put (items_by number seen found) (items_by number seen c.replace_tail.new.items.items) olds c.replace_tail.new.boundaries of_items of_tiles
    (behind_changed number seen table found olds numbers removed put new known initial is_text a h c.replace_tail.new.items.items c.replace_tail.new.boundaries c.replace_tail.new.ahead.items is)

pub between-tiles_between-requires : goal.between-tiles_between-requires
between-tiles_between-requires g c =
    let initial : is_state (definition_by g.S.Numbered.number c.args.table.now) 0 ≡ true = sym c.is_state.ensures ∙ c.if-not-is_state.false in
    let a = c.in_ok-recut.recut in
    let h : HasRecut g.S.Numbered.number g.X.Lexeme.seen c.args.table.now c.args.lexed.now.items.items c.args.lexed.now.boundaries c.args.lexed.now.ahead.items c.args.edit.now.removed c.args.edit.now.put.now c.args.new.now a = rw (sym c.as_slice.ensures.value, sym c.tidy.ensures, sym c.as_slice-2.ensures.value) c.in_ok-recut.ensures in
    let j = c.in-Some.met in
    (met_within g.S.Numbered.number g.X.Lexeme.seen c.args.table.now c.args.lexed.now.items.items c.args.lexed.now.boundaries c.args.lexed.now.ahead.items c.args.edit.now.removed c.args.edit.now.put.now c.args.new.now c.requires.known initial a h j (h.met j c.in-Some.is)).0

pub returns-in_ok-last-in-Some-clause-run : goal.returns-in_ok-last-in-Some-clause-run
returns-in_ok-last-in-Some-clause-run g c =
    let initial : is_state (definition_by g.S.Numbered.number c.args.table.now) 0 ≡ true = sym c.is_state.ensures ∙ c.if-not-is_state.false in
    let a = c.in_ok-recut.recut in
    let h : HasRecut g.S.Numbered.number g.X.Lexeme.seen c.args.table.now c.args.lexed.now.items.items c.args.lexed.now.boundaries c.args.lexed.now.ahead.items c.args.edit.now.removed c.args.edit.now.put.now c.args.new.now a = rw (sym c.as_slice.ensures.value, sym c.tidy.ensures, sym c.as_slice-2.ensures.value) c.in_ok-recut.ensures in
    let j = c.in-Some.met in
    let m = h.met j c.in-Some.is in
    let is : HasReplacedMiddle g.S.Numbered.number g.X.Lexeme.seen c.args.lexed.now.items.items c.args.lexed.now.boundaries c.args.lexed.now.ahead.items a j c.replace_middle.new.items.items c.replace_middle.new.boundaries c.replace_middle.new.ahead.items =
    rw (sym c.tidy.ensures) c.in_ok-last-in-Some.ensures.put in
    between_run g.S.Numbered.number g.X.Lexeme.seen c.args.table.now c.args.lexed.now.items.items c.args.lexed.now.boundaries c.args.lexed.now.ahead.items c.args.edit.now.removed c.args.edit.now.put.now c.args.new.now c.requires.known initial a h j m c.replace_middle.new.items.items c.replace_middle.new.boundaries c.replace_middle.new.ahead.items is

pub returns-in_ok-last-in-Some-clause-looks : goal.returns-in_ok-last-in-Some-clause-looks
returns-in_ok-last-in-Some-clause-looks g c =
    let initial : is_state (definition_by g.S.Numbered.number c.args.table.now) 0 ≡ true = sym c.is_state.ensures ∙ c.if-not-is_state.false in
    let a = c.in_ok-recut.recut in
    let h : HasRecut g.S.Numbered.number g.X.Lexeme.seen c.args.table.now c.args.lexed.now.items.items c.args.lexed.now.boundaries c.args.lexed.now.ahead.items c.args.edit.now.removed c.args.edit.now.put.now c.args.new.now a = rw (sym c.as_slice.ensures.value, sym c.tidy.ensures, sym c.as_slice-2.ensures.value) c.in_ok-recut.ensures in
    let j = c.in-Some.met in
    let m = h.met j c.in-Some.is in
    let is : HasReplacedMiddle g.S.Numbered.number g.X.Lexeme.seen c.args.lexed.now.items.items c.args.lexed.now.boundaries c.args.lexed.now.ahead.items a j c.replace_middle.new.items.items c.replace_middle.new.boundaries c.replace_middle.new.ahead.items =
    rw (sym c.tidy.ensures) c.in_ok-last-in-Some.ensures.put in
    between_looks g.S.Numbered.number g.X.Lexeme.seen c.args.table.now c.args.lexed.now.items.items c.args.lexed.now.boundaries c.args.lexed.now.ahead.items c.args.edit.now.removed c.args.edit.now.put.now c.args.new.now c.requires.known initial a h j m c.replace_middle.new.items.items c.replace_middle.new.boundaries c.replace_middle.new.ahead.items is

pub returns-in_ok-last-in-Some-clause-counts : goal.returns-in_ok-last-in-Some-clause-counts
returns-in_ok-last-in-Some-clause-counts g c =
    let initial : is_state (definition_by g.S.Numbered.number c.args.table.now) 0 ≡ true = sym c.is_state.ensures ∙ c.if-not-is_state.false in
    let a = c.in_ok-recut.recut in
    let h : HasRecut g.S.Numbered.number g.X.Lexeme.seen c.args.table.now c.args.lexed.now.items.items c.args.lexed.now.boundaries c.args.lexed.now.ahead.items c.args.edit.now.removed c.args.edit.now.put.now c.args.new.now a = rw (sym c.as_slice.ensures.value, sym c.tidy.ensures, sym c.as_slice-2.ensures.value) c.in_ok-recut.ensures in
    let j = c.in-Some.met in
    let m = h.met j c.in-Some.is in
    let is : HasReplacedMiddle g.S.Numbered.number g.X.Lexeme.seen c.args.lexed.now.items.items c.args.lexed.now.boundaries c.args.lexed.now.ahead.items a j c.replace_middle.new.items.items c.replace_middle.new.boundaries c.replace_middle.new.ahead.items =
    rw (sym c.tidy.ensures) c.in_ok-last-in-Some.ensures.put in
    let cut : c.between-tiles_between.result.inserted ≡ length a.progress.boundaries - 1 = ap (λ (x : Change). x.inserted) c.between-tiles_between.ensures ∙ ap (λ n. n - 1) c.len-cut.ensures in
    subst (λ n. AreCountsOf (definition_by g.S.Numbered.number c.args.table.now) (asks_by c.args.table.now c.args.new.now) c.args.lexed.now.boundaries c.args.lexed.now.ahead.items (as_span c.args.edit.now.removed) c.args.edit.now.put.now c.args.new.now c.replace_middle.new.boundaries a.progress.asked n) (sym cut)
    (between_counts g.S.Numbered.number g.X.Lexeme.seen c.args.table.now c.args.lexed.now.items.items c.args.lexed.now.boundaries c.args.lexed.now.ahead.items c.args.edit.now.removed c.args.edit.now.put.now c.args.new.now c.requires.known initial a h j m c.replace_middle.new.items.items c.replace_middle.new.boundaries c.replace_middle.new.ahead.items is (λ e. absurd (none-some j (sym e ∙ c.in-Some.is))))

pub returns-in_ok-last-in-Some-clause-changed : goal.returns-in_ok-last-in-Some-clause-changed
returns-in_ok-last-in-Some-clause-changed g c known =
    let number = g.S.Numbered.number in
    let seen = g.X.Lexeme.seen in
    let table = c.args.table.now in
    let found = c.args.lexed.now.items.items in
    let olds = c.args.lexed.now.boundaries in
    let numbers = c.args.lexed.now.ahead.items in
    let removed = c.args.edit.now.removed in
    let put = c.args.edit.now.put.now in
    let new = c.args.new.now in
    let initial : is_state (definition_by number table) 0 ≡ true = sym c.is_state.ensures ∙ c.if-not-is_state.false in
    let is_text : IsText new = record { bytes = are_bytes new c.type_inv.new; utf8 = c.utf8.new } in
    let a = c.in_ok-recut.recut in
    let h : HasRecut number seen table found olds numbers removed put new a = rw (sym c.as_slice.ensures.value, sym c.tidy.ensures, sym c.as_slice-2.ensures.value) c.in_ok-recut.ensures in
    let came : c.len-inserted.result ≡ length a.progress.items.items = omega (arith, c.len-inserted.ensures, a.progress.items.ok.0) in
    let cut : c.len-cut.result - 1 ≡ length a.progress.boundaries - 1 = ap (λ n. n - 1) c.len-cut.ensures in
    let j = c.in-Some.met in
    let m = h.met j c.in-Some.is in
    let last = c.in_ok-last-in-Some.last in
    let is : HasReplacedMiddle number seen found olds numbers a j c.replace_middle.new.items.items c.replace_middle.new.boundaries c.replace_middle.new.ahead.items = rw (sym c.tidy.ensures) c.in_ok-last-in-Some.ensures.put in
    let ends : (a.first ≤ last) × (last ≤ length found) × (drop last (items_by number seen found) ≡ items_from (boundary_at olds j).place (items_by number seen found)) = rw (sym c.tidy.ensures) c.in_ok-last-in-Some.ensures.last in
    let small : length new < 2 ^ 64 = omega arith in
    let of_items : c.between-items_between.result ≡ change a.first (last - a.first) (length a.progress.items.items) = c.between-items_between.ensures ∙ ap (change a.first (last - a.first)) came in
    let of_tiles : c.between-tiles_between.result ≡ change a.index (j - a.index) (length a.progress.boundaries - 1) = c.between-tiles_between.ensures ∙ ap (change a.index (j - a.index)) cut in
    told (definition_by number table) known.text new (as_span removed) put (items_by number seen found) (items_by number seen c.replace_middle.new.items.items) olds c.replace_middle.new.boundaries of_items of_tiles
    (between_changed number seen table found olds numbers removed put new known initial is_text a h j m c.replace_middle.new.items.items c.replace_middle.new.boundaries c.replace_middle.new.ahead.items is small last ends.0 ends.1 ends.2)

-- without a state 0 no tile is cut
pub returns-then-not-is_state-clause-stateless : goal.returns-then-not-is_state-clause-stateless
returns-then-not-is_state-clause-stateless g c _ = ap (λ (x : Changed). x.pieces.inserted) c.none.ensures

pub returns-in_ok-replace_tail-in-None-clause-stateless : goal.returns-in_ok-replace_tail-in-None-clause-stateless
returns-in_ok-replace_tail-in-None-clause-stateless g c none = absurd (true≢false (sym (sym c.is_state.ensures ∙ c.if-not-is_state.false) ∙ none))

pub returns-in_ok-last-in-Some-clause-stateless : goal.returns-in_ok-last-in-Some-clause-stateless
returns-in_ok-last-in-Some-clause-stateless g c none = absurd (true≢false (sym (sym c.is_state.ensures ∙ c.if-not-is_state.false) ∙ none))

-- the cells that were looked at
pub returns-then-not-is_state-clause-recut : goal.returns-then-not-is_state-clause-recut
returns-then-not-is_state-clause-recut g c = no_recut c.args.table.now c.args.new.now c.args.lexed.now.boundaries c.none.result.pieces

pub returns-in_ok-replace_tail-in-None-clause-recut : goal.returns-in_ok-replace_tail-in-None-clause-recut
returns-in_ok-replace_tail-in-None-clause-recut g c =
    let initial : is_state (definition_by g.S.Numbered.number c.args.table.now) 0 ≡ true = sym c.is_state.ensures ∙ c.if-not-is_state.false in
    let a = c.in_ok-recut.recut in
    let h : HasRecut g.S.Numbered.number g.X.Lexeme.seen c.args.table.now c.args.lexed.now.items.items c.args.lexed.now.boundaries c.args.lexed.now.ahead.items c.args.edit.now.removed c.args.edit.now.put.now c.args.new.now a = rw (sym c.as_slice.ensures.value, sym c.tidy.ensures, sym c.as_slice-2.ensures.value) c.in_ok-recut.ensures in
    let is : HasReplacedTail c.args.lexed.now.items.items c.args.lexed.now.boundaries c.args.lexed.now.ahead.items a c.replace_tail.new.items.items c.replace_tail.new.boundaries c.replace_tail.new.ahead.items =
    rw (sym c.tidy.ensures) c.in_ok-replace_tail-in-None.ensures.put in
    let cut : c.len-cut.result - 1 ≡ length a.progress.boundaries - 1 = ap (λ n. n - 1) c.len-cut.ensures in
    let end : c.len-end.result - 1 ≡ length c.args.lexed.now.boundaries - 1 = ap (λ n. n - 1) (c.len-end.ensures ∙ ap length c.tidy.ensures) in
    let of_tiles : c.between-tiles_behind.result ≡ change a.index ((length c.args.lexed.now.boundaries - 1) - a.index) (length a.progress.boundaries - 1) = c.between-tiles_behind.ensures ∙ ap₂ (λ l n. change a.index (l - a.index) n) end cut in
    subst (λ (x : Change). HasLinearRecut c.args.table.now c.args.new.now c.replace_tail.new.boundaries x a.looked) (sym of_tiles)
    (behind_recut g.S.Numbered.number g.X.Lexeme.seen c.args.table.now c.args.lexed.now.items.items c.args.lexed.now.boundaries c.args.lexed.now.ahead.items c.args.edit.now.removed c.args.edit.now.put.now c.args.new.now c.requires.known initial a h c.in-None.is c.replace_tail.new.items.items c.replace_tail.new.boundaries c.replace_tail.new.ahead.items is)

pub returns-in_ok-last-in-Some-clause-recut : goal.returns-in_ok-last-in-Some-clause-recut
returns-in_ok-last-in-Some-clause-recut g c =
    let initial : is_state (definition_by g.S.Numbered.number c.args.table.now) 0 ≡ true = sym c.is_state.ensures ∙ c.if-not-is_state.false in
    let a = c.in_ok-recut.recut in
    let h : HasRecut g.S.Numbered.number g.X.Lexeme.seen c.args.table.now c.args.lexed.now.items.items c.args.lexed.now.boundaries c.args.lexed.now.ahead.items c.args.edit.now.removed c.args.edit.now.put.now c.args.new.now a = rw (sym c.as_slice.ensures.value, sym c.tidy.ensures, sym c.as_slice-2.ensures.value) c.in_ok-recut.ensures in
    let j = c.in-Some.met in
    let m = h.met j c.in-Some.is in
    let is : HasReplacedMiddle g.S.Numbered.number g.X.Lexeme.seen c.args.lexed.now.items.items c.args.lexed.now.boundaries c.args.lexed.now.ahead.items a j c.replace_middle.new.items.items c.replace_middle.new.boundaries c.replace_middle.new.ahead.items =
    rw (sym c.tidy.ensures) c.in_ok-last-in-Some.ensures.put in
    let cut : c.len-cut.result - 1 ≡ length a.progress.boundaries - 1 = ap (λ n. n - 1) c.len-cut.ensures in
    let of_tiles : c.between-tiles_between.result ≡ change a.index (j - a.index) (length a.progress.boundaries - 1) = c.between-tiles_between.ensures ∙ ap (change a.index (j - a.index)) cut in
    subst (λ (x : Change). HasLinearRecut c.args.table.now c.args.new.now c.replace_middle.new.boundaries x a.looked) (sym of_tiles)
    (between_recut g.S.Numbered.number g.X.Lexeme.seen c.args.table.now c.args.lexed.now.items.items c.args.lexed.now.boundaries c.args.lexed.now.ahead.items c.args.edit.now.removed c.args.edit.now.put.now c.args.new.now c.requires.known initial a h j m c.replace_middle.new.items.items c.replace_middle.new.boundaries c.replace_middle.new.ahead.items is c.in-Some.is)
