use Rattle.std.proofs.Common.{◌≡◌, ◌+◌, ◌≤◌, All, ◌++◌, length, map, take, drop, sym, ap, ap₂, ◌∙◌, subst, arith}
use Rattle.lrlex_rules.specs.Tiling.{rebased}
use Rattle.lrlex_boundaries.specs.Boundaries.{boundary_at}
use Rattle.lrlex.specs.Moves.{IsMovable, items_from}
use Rattle.lrlex.specs.Lookahead.{AreRaised, items_before}
use Rattle.lrlex.specs.Views.{item_of}
use Rattle.std.proofs.lemmas.List.{take_at, drop-map}
use Rattle.lrlex.proofs.RaisedLemmas.{raised_behind}
use Rattle.lrlex.proofs.PutLemmas.{places_rise, ends_rise, put_tail, put_moved}
use Rattle.lrlex.proofs.editing.relex.replace_middle.Goals as goal

pub splice-requires-2-clause-order : goal.splice-requires-2-clause-order
splice-requires-2-clause-order g c =
    let view = item_of g.S.Numbered.number g.X.Lexeme.seen in
    let old = c.args.items.now.items in
    let bounds = c.args.boundaries.now in
    let index = c.args.recut.index in
    let last = c.count_before-last.result in
    let q = (boundary_at bounds c.args.met).place in
    let before : map view (take last old) ≡ items_before q (map view old) =
    subst (λ xs. map view (take last xs) ≡ items_before q (map view xs)) c.deref.ensures.value
    (subst (λ r. map view (take last c.deref.result.now) ≡ items_before r (map view c.deref.result.now)) c.place-from.ensures c.count_before-last.ensures.before) in
    ends_rise view old c.args.recut.first last (boundary_at bounds index).place q (places_rise bounds index c.args.met c.requires.sorted c.requires.within.0 c.requires.within.1) c.requires.first.0
    (omega (arith, c.count_before-last.ensures.within, ap length c.deref.ensures.value)) c.requires.first.1 before

pub move_items-requires-clause-movable : goal.move_items-requires-clause-movable
move_items-requires-clause-movable g c =
    let view = item_of g.S.Numbered.number g.X.Lexeme.seen in
    let old = c.args.items.now.items in
    let bounds = c.args.boundaries.now in
    let found = c.args.recut.progress.items.items in
    let first = c.args.recut.first in
    let last = c.count_before-last.result in
    let to = c.args.recut.progress.place in
    let p = (boundary_at bounds c.args.met).place in
    let now = c.splice-2.new.list.items in
    let n = c.len-3.result in
    let count : n ≡ length found = omega (arith, c.len-3.ensures, c.args.recut.progress.items.ok.0) in
    let now_is : now ≡ take first old ++ (found ++ drop last old) = c.splice-2.ensures ∙ ap₂ (λ xs ys. take first xs ++ (ys ++ drop last xs)) c.reserve.ensures.items c.deref-3.ensures.value in
    let tail : map view (drop last old) ≡ items_from p (map view old) =
    subst (λ xs. map view (drop last xs) ≡ items_from p (map view xs)) c.deref.ensures.value
    (subst (λ r. map view (drop last c.deref.result.now) ≡ items_from r (map view c.deref.result.now)) c.place-from.ensures c.count_before-last.ensures.from) in
    let rest : map view (drop (first + n) c.deref_mut.result.now) ≡ items_from p (map view old) = ap (λ xs. map view (drop (first + n) xs)) c.deref_mut.ensures.value ∙ put_tail view old found now first last n c.requires.first.0 count now_is ∙ tail in
    subst (All (IsMovable c.place-from.result to)) (sym rest) (subst (λ r. All (IsMovable r to) (items_from p (map view old))) (sym c.place-from.ensures) c.requires.movable.1)

pub returns-clause-put : goal.returns-clause-put
returns-clause-put g c =
    let view = item_of g.S.Numbered.number g.X.Lexeme.seen in
    let old = c.args.items.now.items in
    let bounds = c.args.boundaries.now in
    let numbers = c.args.ahead.now.items in
    let index = c.args.recut.index in
    let met = c.args.met in
    let found = c.args.recut.progress.items.items in
    let front = c.args.recut.progress.ahead.items in
    let lookahead = c.args.recut.progress.lookahead in
    let first = c.args.recut.first in
    let last = c.count_before-last.result in
    let to = c.args.recut.progress.place in
    let p = (boundary_at bounds met).place in
    let now = c.splice-2.new.list.items in
    let moved = c.move_items.new.items in
    let n = c.len-3.result in
    let more = c.append_raised.new.ahead.items in
    let far = c.in_ok-far.far in
    let count : n ≡ length found = omega (arith, c.len-3.ensures, c.args.recut.progress.items.ok.0) in
    let now_is : now ≡ take first old ++ (found ++ drop last old) = c.splice-2.ensures ∙ ap₂ (λ xs ys. take first xs ++ (ys ++ drop last xs)) c.reserve.ensures.items c.deref-3.ensures.value in
    let tail : map view (drop last old) ≡ items_from p (map view old) =
    subst (λ xs. map view (drop last xs) ≡ items_from p (map view xs)) c.deref.ensures.value
    (subst (λ r. map view (drop last c.deref.result.now) ≡ items_from r (map view c.deref.result.now)) c.place-from.ensures c.count_before-last.ensures.from) in
    let moved_is : map view moved ≡ map view (take (first + n) now) ++ map (rebased p to) (map view (drop (first + n) now)) =
    subst (λ xs. map view moved ≡ map view (take (first + n) xs) ++ map (rebased p to) (map view (drop (first + n) xs))) c.deref_mut.ensures.value
    (subst (λ r. map view moved ≡ map view (take (first + n) c.deref_mut.result.now) ++ map (rebased r to) (map view (drop (first + n) c.deref_mut.result.now))) c.place-from.ensures c.move_items.ensures) in
    let numbers_is : c.splice-3.new.list.items ≡ take index numbers ++ (more ++ drop far numbers) = c.splice-3.ensures ∙ ap₂ (λ xs ys. take index xs ++ (ys ++ drop far xs)) c.reserve-2.ensures.items c.deref-4.ensures.value in
    let raised : AreRaised bounds numbers met lookahead (length bounds) front (more ++ drop far numbers) = subst (λ ns. AreRaised bounds ns met lookahead (length bounds) front (more ++ drop far ns)) c.deref-2.ensures.value c.in_ok-far.ensures.raised in
    record {
      items = ap (map view) (take_at moved (drop (length moved) now) c.splice-2.new.list.len (omega arith)) ∙ put_moved view old found now first last n c.requires.first.0 count now_is (rebased p to) moved (items_from p (map view old)) tail moved_is;
      boundaries = c.in_ok-splice.ensures.put;
      ahead =
          subst (AreRaised bounds numbers met lookahead (length bounds) (take index numbers ++ front)) (sym numbers_is) (raised_behind bounds numbers met lookahead front (take index numbers) (length bounds) (more ++ drop far numbers) raised);
    }

pub returns-clause-last : goal.returns-clause-last
returns-clause-last g c =
    let view = item_of g.S.Numbered.number g.X.Lexeme.seen in
    let old = c.args.items.now.items in
    let bounds = c.args.boundaries.now in
    let index = c.args.recut.index in
    let last = c.count_before-last.result in
    let q = (boundary_at bounds c.args.met).place in
    let before : map view (take last old) ≡ items_before q (map view old) =
    subst (λ xs. map view (take last xs) ≡ items_before q (map view xs)) c.deref.ensures.value
    (subst (λ r. map view (take last c.deref.result.now) ≡ items_before r (map view c.deref.result.now)) c.place-from.ensures c.count_before-last.ensures.before) in
    let tail : map view (drop last old) ≡ items_from q (map view old) =
    subst (λ xs. map view (drop last xs) ≡ items_from q (map view xs)) c.deref.ensures.value
    (subst (λ r. map view (drop last c.deref.result.now) ≡ items_from r (map view c.deref.result.now)) c.place-from.ensures c.count_before-last.ensures.from) in
    let within : last ≤ length old = omega (arith, c.count_before-last.ensures.within, ap length c.deref.ensures.value) in
    let order = ends_rise view old c.args.recut.first last (boundary_at bounds index).place q (places_rise bounds index c.args.met c.requires.sorted c.requires.within.0 c.requires.within.1) c.requires.first.0
    within c.requires.first.1 before in
    (order, within, drop-map view last old ∙ tail)
