use Rattle.std.proofs.lemmas.Str.{IsCharBoundary-start}
use Rattle.lrlex_positions.proofs.LineCursorLemmas.{first}
use Rattle.lrlex_positions.proofs.line_cursor.LineCursor.new.Goals as goal

pub invariant_of-result : goal.invariant_of-result
invariant_of-result c =
    let begin = IsCharBoundary-start c.args.text.now c.utf8.text in
    (begin, (begin, (first c.args.text.now, tt)))
