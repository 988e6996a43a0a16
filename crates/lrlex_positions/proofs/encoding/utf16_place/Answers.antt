use Rattle.std.proofs.Common.{length, sym, ◌∙◌, ap, arith}
use Rattle.std.proofs.lemmas.Str.{IsCharBoundary-start}
use Rattle.lrlex_positions.proofs.ColumnLemmas.{no_units, units_of, walk_more, walk_stops, walk_ends, moved_on}
use Rattle.lrlex_positions.proofs.encoding.utf16_place.Goals as goal

pub loop-c-init : goal.loop-c-init
loop-c-init c = (IsCharBoundary-start c.args.line.now c.utf8.line, sym c.chars-rest.ensures.rest, no_units c.args.column)

pub returns-then-left-units : goal.returns-then-left-units
returns-then-left-units c =
    let step = c.loop-c.invariant.1 ∙ c.in-Some.ensures.steps.0 in
    let units = units_of c.in-Some.c c.len_utf16-units.result c.len_utf16-units.ensures.bmp c.len_utf16-units.ensures.surrogate_pair in
    walk_stops c.args.line.now c.args.column c.loop-c.at c.loop-c.left c.in-Some.c _ c.utf8.line c.loop-c.invariant.0 c.loop-c.invariant.2 step (omega (arith, c.if-left-units.true, units))

pub loop-c-preserved : goal.loop-c-preserved
loop-c-preserved c =
    let step = c.loop-c.invariant.1 ∙ c.in-Some.ensures.steps.0 in
    let units = units_of c.in-Some.c c.len_utf16-units.result c.len_utf16-units.ensures.bmp c.len_utf16-units.ensures.surrogate_pair in
    moved_on c.args.line.now c.args.column c.loop-c.at c.loop-c.left c.in-Some.c c.len_utf16-units.result c.len_utf8-at.result _ c.len_utf8-at.ensures.value units
    (walk_more c.args.line.now c.loop-c.at c.in-Some.c _ c.utf8.line c.loop-c.invariant.0 step) c.loop-c.invariant.2 (omega (arith, c.if-left-units.false))

pub returns : goal.returns
returns c =
    let none = c.in_default.ensures.steps.0.0 in
    walk_ends c.args.line.now c.args.column c.loop-c.at c.loop-c.left c.loop-c.invariant.0 c.loop-c.invariant.2 (ap length c.loop-c.invariant.1 ∙ none)
