use Rattle.std.proofs.Common.{◌≡◌, ℕ, ◌++◌, ◌-◌, Some, slice_get, map, length, sym, ap, ◌∙◌, arith}
use Rattle.std.proofs.lemmas.List.{length-map}
use Rattle.std.proofs.lemmas.Option.{slice_get_within, get_or_from_slice_get}
use Rattle.regex.specs.Patterns.{Re}
use Rattle.lrlex_table.specs.Table.{pattern_at}
use Rattle.lrlex_table.proofs.PartLemmas.{part_joined}
use Rattle.lrlex_table.proofs.merged_tables.join.Goals as goal

pub returns-clause-part : goal.returns-clause-part
returns-clause-part c ps lo hi left right =
    let a = c.args.a.now in
    let b = c.args.b.now in
    let xs = a.patterns.items in
    let ys = b.patterns.items in
    let z = c.in-Some.last.now in
    let y = c.in-Some-first.first.now in
    let f : ℕ → Re = λ k. pattern_at ps k in
    let last : slice_get xs (length xs - 1) ≡ Some z = ap (λ l. slice_get l (length l - 1)) (sym c.deref.ensures.value) ∙ sym c.in-Some.ensures.value in
    let first : slice_get ys 0 ≡ Some y = ap (λ l. slice_get l 0) (sym c.deref-2.ensures.value) ∙ sym c.in-Some-first.ensures.value in
    let some = slice_get_within xs (length xs - 1) z last in
    let other = slice_get_within ys 0 y first in
    let made = c.in_ok-made.ensures.table (map f xs) (map f ys) left.table right.table (omega (arith, c.in-Ok.ensures.1, c.len.ensures, a.patterns.ok.0, length-map xs f)) in
    let patterns : c.extend_from_slice.new.self.items ≡ xs ++ ys =
    c.in_ok-extend_from_slice.ensures.items ∙ ap (λ l. l ++ c.deref-4.result.now) (c.in_ok-patterns.ensures.items ∙ c.deref-3.ensures.value) ∙ ap (λ l. xs ++ l) c.deref-4.ensures.value in
    part_joined ps lo hi a b (record { table = c.in-Some-made.table; patterns = c.extend_from_slice.new.self }) left right (omega (arith, some)) other
    (omega (arith, get_or_from_slice_get xs (length xs - 1) z 0 last, get_or_from_slice_get ys 0 y 0 first, c.if-last-first.false)) patterns
    (rw c.in-Some-made.is at made)
