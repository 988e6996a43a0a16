use Rattle.std.proofs.Common.{◌≡◌, ◌+◌, ◌-◌, ◌<◌, ◌≤◌, ◌^◌, ◌++◌, length, take, drop, sym, ◌∙◌, ap, subst, arith}
use Rattle.std.specs.List.{All}
use Rattle.lrlex_base.proofs.NewlineEditLemmas.{spliced_is, spliced_rest, spliced_long, put_is}
use Rattle.lrlex_base.proofs.newlines.put_starts.Goals as goal

pub move_starts-requires-clause-within : goal.move_starts-requires-clause-within
move_starts-requires-clause-within g c =
    let S = c.args.starts.now.items in
    let added = c.args.added.items in
    let i = c.in_ok-splice.ensures.items in
    let V = c.splice.new.self.items in
    let is : V ≡ take c.args.first S ++ (added ++ drop c.args.behind S) = spliced_is S V added i.1 c.args.first c.args.behind i.0 i.2.0 (omega (arith, i.2.1, c.args.added.ok.0)) i.3 i.4 in
    omega (arith, ap length c.as_mut_slice.ensures.value, spliced_long S V added c.args.first c.args.behind (c.args.first + c.len.result) (omega (arith, c.requires.first, c.requires.behind)) (omega (arith, c.len.ensures, c.args.added.ok.0)) is)

pub move_starts-requires-clause-movable : goal.move_starts-requires-clause-movable
move_starts-requires-clause-movable g c =
    let S = c.args.starts.now.items in
    let added = c.args.added.items in
    let n = c.args.first + c.len.result in
    let i = c.in_ok-splice.ensures.items in
    let V = c.splice.new.self.items in
    let is : V ≡ take c.args.first S ++ (added ++ drop c.args.behind S) = spliced_is S V added i.1 c.args.first c.args.behind i.0 i.2.0 (omega (arith, i.2.1, c.args.added.ok.0)) i.3 i.4 in
    let rest : drop n c.as_mut_slice.result.now ≡ drop c.args.behind S =
    ap (drop n) c.as_mut_slice.ensures.value ∙ spliced_rest S V added c.args.first c.args.behind n (omega (arith, c.requires.first, c.requires.behind)) (omega (arith, c.len.ensures, c.args.added.ok.0)) is in
    subst (All (λ s. (c.args.from ≤ s) × (s - c.args.from + c.args.to < 2 ^ 64))) (sym rest) c.requires.movable

pub returns-clause-ok : goal.returns-clause-ok
returns-clause-ok g c =
    let S = c.args.starts.now.items in
    let added = c.args.added.items in
    let n = c.args.first + c.len.result in
    let i = c.in_ok-splice.ensures.items in
    let V = c.splice.new.self.items in
    let M = c.move_starts.new.starts in
    let is : V ≡ take c.args.first S ++ (added ++ drop c.args.behind S) = spliced_is S V added i.1 c.args.first c.args.behind i.0 i.2.0 (omega (arith, i.2.1, c.args.added.ok.0)) i.3 i.4 in
    put_is (λ s. s - c.args.from + c.args.to) S V c.as_mut_slice.result.now M (drop (length M) V) added c.args.first c.args.behind n c.splice.new.self.len
    (omega (arith, c.requires.first, c.requires.behind)) (omega (arith, c.len.ensures, c.args.added.ok.0)) is c.as_mut_slice.ensures.value c.move_starts.ensures
    (omega (arith, c.move_starts.auto.starts, c.as_mut_slice.ensures.len))
