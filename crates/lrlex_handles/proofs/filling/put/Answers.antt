use Rattle.std.proofs.Common.{◌≡◌, ◌+◌, ◌-◌, false, ◌++◌, sym, ap₂, subst, set}
use Rattle.lrlex_base.specs.Spans.{span_end, span_start}
use Rattle.lrlex.specs.Tiling.{Lexeme, lexeme_of}
use Rattle.lrlex_handles.specs.Lexemes.{AreCounted}
use Rattle.lrlex_handles.specs.declared.structs.Token.{Token}
use Rattle.lrlex_handles.proofs.LexemeLemmas.{counted_past, counted_within}
use Rattle.lrlex_handles.proofs.filling.put.Goals as goal
use Rattle.lrlex_handles.proofs.filling.put.Goals.{then-count-tokens, else-count-tokens}

pub returns-after-count-tokens : goal.returns-after-count-tokens
returns-after-count-tokens c found room h =
    let tokens = c.args.tokens.now in
    let count = c.args.count.now in
    let id = c.in-Some.id in
    let start = span_start c.args.tile.span in
    let len = span_end c.args.tile.span - span_start c.args.tile.span in
    elim c.if-count-tokens.branch [
      | then-count-tokens w ↦
          let v : Token = record { start = w.start.result; len = w.len.result; id = id } in
          let is : v ≡ record { start = start; len = len; id = id } = ap₂ (λ a b. let made : Token = record { start = a; len = b; id = id } in made) w.start.ensures w.len.ensures in
          subst (λ us. AreCounted (found ++ lexeme_of c.args.tile.id start len) room us (count + 1)) (sym w.tokens-is)
          (subst (λ o. AreCounted (found ++ lexeme_of o start len) room (set tokens count v) (count + 1)) (sym c.in-Some.is)
          (counted_within found room tokens count id start len v is w.if-count-tokens.true h))
      | else-count-tokens w ↦
          subst (λ us. AreCounted (found ++ lexeme_of c.args.tile.id start len) room us (count + 1)) (sym w.tokens-is)
          (subst (λ o. AreCounted (found ++ lexeme_of o start len) room tokens (count + 1)) (sym c.in-Some.is)
          (counted_past found room tokens count (Lexeme id start len false) w.if-count-tokens.false h))
    ]
