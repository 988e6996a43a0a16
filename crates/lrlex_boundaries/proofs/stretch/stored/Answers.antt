use Rattle.std.proofs.Common.{◌≡◌, ◌+◌, ◌-◌, ◌++◌, length, take, drop, take_all, length-drop, sym, ap, ◌∙◌, arith}
use Rattle.std.proofs.Math.Seq.{take-append_seam}
use Rattle.std.proofs.lemmas.Slice.Eq.{starts_is}
use Rattle.lrlex_boundaries.proofs.ArenaLemmas.{follows}
use Rattle.lrlex_boundaries.proofs.PairLemmas.{pair_decides}
use Rattle.lrlex_boundaries.proofs.stretch.stored.Goals as goal

pub returns-then-starts_with-clause-stack : goal.returns-then-starts_with-clause-stack
returns-then-starts_with-clause-stack c =
    let entries = c.args.entries.now.items in
    let stack = c.args.stack.now in
    let k = c.args.kept in
    let at = c.args.first + k in
    let rest = take (length stack - k) (drop k stack) in
    let s = take (length c.deref.result.now - at) (drop at c.deref.result.now) in
    let begins = (starts_is pair_decides s rest c.starts_with.result c.starts_with.ensures.value).0 c.if-starts_with.true in
    let rest_is : rest ≡ drop k stack = take_all (length stack - k) (drop k stack) (omega (arith, length-drop k stack)) in
    let s_is : s ≡ drop at entries =
    take_all (length c.deref.result.now - at) (drop at c.deref.result.now) (omega (arith, length-drop at c.deref.result.now)) ∙ ap (drop at) c.deref.ensures.value in
    let parts : drop at entries ≡ drop k stack ++ drop (length rest) s = sym s_is ∙ begins ∙ ap (λ p. p ++ drop (length rest) s) rest_is in
    follows entries stack c.args.first k c.requires.some c.requires.within c.requires.same
    (ap (take (length (drop k stack))) parts ∙ take-append_seam (drop k stack) (drop (length rest) s))
