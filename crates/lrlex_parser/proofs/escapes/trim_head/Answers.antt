use Rattle.std.proofs.Common.{◌++◌, ◌∙◌, ◌-◌, List, ℕ, length, take, drop, ap, sym, subst}
use Rattle.std.specs.Str.{IsUtf8}
use Rattle.std.proofs.lemmas.Str.{IsCharBoundary-from_take}
use Rattle.std.proofs.lemmas.List.{take-append-drop}
use Rattle.lrlex_parser.specs.Escape.{first_char}
use Rattle.lrlex_parser.proofs.Fronts.{next_behind, seam_after, escaped_head, range_front}
use Rattle.lrlex_parser.proofs.escapes.trim_head.Goals as goal

pub split_at-requires : goal.split_at-requires
split_at-requires c = IsCharBoundary-from_take c.args.head.now (length c.trim_end-kept.result.now) c.utf8.head c.trim_end-kept.ensures.bound (subst IsUtf8 c.trim_end-kept.ensures.front c.trim_end-kept.utf8)

pub range-requires-clause-end_boundary : goal.range-requires-clause-end_boundary
range-requires-clause-end_boundary c =
    let n = length c.trim_end-kept.result.now in
    let on = IsCharBoundary-from_take c.args.head.now n c.utf8.head c.trim_end-kept.ensures.bound (subst IsUtf8 c.trim_end-kept.ensures.front c.trim_end-kept.utf8) in
    let behind = next_behind c.args.head.now n c.chars-rest.result c.next.new.self c.next.result c.next.ensures.steps.0 (c.chars-rest.ensures.rest ∙ c.split_at.ensures.back) c.utf8.head on
    ∙ ap (λ (x : List ℕ). first_char (drop n c.args.head.now) ++ x) (sym c.as_str.ensures) in
    seam_after c.args.head.now (take (length c.trim_end-kept.result.now) c.args.head.now) (drop (length c.trim_end-kept.result.now) c.args.head.now) c.as_str.result.now
    (sym (take-append-drop (length c.trim_end-kept.result.now) c.args.head.now)) behind c.as_str.utf8

pub returns : goal.returns
returns c =
    let n = length c.trim_end-kept.result.now in
    let on = IsCharBoundary-from_take c.args.head.now n c.utf8.head c.trim_end-kept.ensures.bound (subst IsUtf8 c.trim_end-kept.ensures.front c.trim_end-kept.utf8) in
    let behind = next_behind c.args.head.now n c.chars-rest.result c.next.new.self c.next.result c.next.ensures.steps.0 (c.chars-rest.ensures.rest ∙ c.split_at.ensures.back) c.utf8.head on
    ∙ ap (λ (x : List ℕ). first_char (drop n c.args.head.now) ++ x) (sym c.as_str.ensures) in
    c.range.ensures.value ∙ range_front c.args.head.now (length c.args.head.now - length c.as_str.result.now) ∙ escaped_head c.args.head.now c.trim_end-kept.result.now c.as_str.result.now c.trim_end-kept.ensures.value (sym c.ends_in_escape.ensures ∙ c.if-not-ends_in_escape.false) c.trim_end-kept.ensures.front behind
