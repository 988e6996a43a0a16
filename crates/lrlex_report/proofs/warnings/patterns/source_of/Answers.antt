use Rattle.std.proofs.Common.{◌≡◌, ◌≤◌, List, length, take, drop, subst, arith, IsUtf8}
use Rattle.std.proofs.lemmas.Str.{IsCharBoundary-from_take}
use Rattle.lrlex_report.proofs.RangeLemmas.{front_of_front, front_end, front_behind}
use Rattle.lrlex_report.proofs.warnings.patterns.source_of.Goals as goal

pub range_from-requires : goal.range_from-requires
range_from-requires c _ =
    IsCharBoundary-from_take c.first_bytes-front.result.now (length c.whole_lines-start.result.now) c.first_bytes-front.utf8 c.whole_lines-start.ensures.bound (subst IsUtf8 c.whole_lines-start.ensures.front c.whole_lines-start.utf8)

pub returns-clause-begin : goal.returns-clause-begin
returns-clause-begin c =
    let rules = c.args.rules.now in
    let front = c.first_bytes-front.result.now in
    let lines = c.whole_lines-start.result.now in
    let is : lines ≡ take (length lines) rules = front_of_front rules front lines c.first_bytes-front.ensures.front c.whole_lines-start.ensures.front c.whole_lines-start.ensures.bound in
    IsCharBoundary-from_take rules (length lines) c.utf8.rules (omega (arith, c.first_bytes-front.ensures.bound, c.whole_lines-start.ensures.bound)) (subst IsUtf8 is c.whole_lines-start.utf8)

pub returns-clause-end : goal.returns-clause-end
returns-clause-end c =
    let rules = c.args.rules.now in
    let front = c.first_bytes-front.result.now in
    let at = length c.whole_lines-start.result.now in
    let rest = c.range_from.result.now in
    let before = c.before_blank.result.now in
    let source = c.trim_end.result.now in
    let short : length source ≤ length before = c.trim_end.ensures.bound in
    let shorter : length before ≤ length rest = c.before_blank.ensures.bound in
    let part : source ≡ take (length source) rest = front_of_front rest before source c.before_blank.ensures.front c.trim_end.ensures.front short in
    let cut : rest ≡ drop at front = c.range_from.ensures.value in
    let behind = front_behind rules front source at c.first_bytes-front.ensures.front c.whole_lines-start.ensures.bound
    (subst (λ (t : List _). source ≡ take (length source) t) cut part) (subst (λ (t : List _). length source ≤ length t) cut (omega arith)) in
    front_end rules at source c.utf8.rules c.trim_end.utf8 (returns-clause-begin c) behind.0 behind.1
