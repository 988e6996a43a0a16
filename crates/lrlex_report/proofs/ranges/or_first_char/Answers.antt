use Rattle.std.proofs.Common.{◌++◌, ◌∙◌, [], List, ℕ, ap, refl, sym}
use Rattle.std.proofs.lemmas.Str.{IsCharBoundary-start}
use Rattle.lrlex_parser.specs.Escape.{first_char}
use Rattle.lrlex_parser.proofs.Fronts.{next_behind, seam_after}
use Rattle.lrlex_report.proofs.ranges.or_first_char.Goals as goal

pub split_at-requires : goal.split_at-requires
split_at-requires c =
    let line = c.args.line.now in
    let behind = next_behind line 0 c.chars-rest.result c.next.new.self c.next.result c.next.ensures.steps.0 c.chars-rest.ensures.rest c.utf8.line (IsCharBoundary-start line c.utf8.line)
    ∙ ap (λ (x : List ℕ). first_char line ++ x) (sym c.as_str.ensures) in
    seam_after line [] line c.as_str.result.now refl behind c.as_str.utf8
