use Rattle.std.proofs.Common.{◌≡◌, ◌≤◌, ◌-◌, take, sym, ap, ◌∙◌, subst, arith}
use Rattle.lrlex_base.specs.Places.{place_of}
use Rattle.lrlex_positions.proofs.LineCursorLemmas.{first, of_front}
use Rattle.lrlex_positions.proofs.line_cursor.LineCursor.place.Goals as goal
use Rattle.lrlex_positions.proofs.line_cursor.LineCursor.place.Goals.{then-self-at, else-self-at}

-- where it counts from
known : (c : goal.After-range) → (c.if-self-at.from.0 ≤ c.floor_char_boundary-at.result) × (c.if-self-at.from.1 ≡ place_of c.self.inside.text.now c.if-self-at.from.0)
known c =
    let text = c.self.inside.text.now in
    elim c.if-self-at.branch [
      | then-self-at w ↦ subst (λ p. (p.0 ≤ c.floor_char_boundary-at.result) × (p.1 ≡ place_of text p.0)) (sym w.from-is) (w.if-self-at.true, c.self.inside.place_of)
      | else-self-at w ↦ subst (λ p. (p.0 ≤ c.floor_char_boundary-at.result) × (p.1 ≡ place_of text p.0)) (sym w.from-is) (omega arith, first text)
    ]

pub end_place-self-inside-requires-clause-place : goal.end_place-self-inside-requires-clause-place
end_place-self-inside-requires-clause-place c =
    let text = c.self.inside.text.now in
    let at = c.floor_char_boundary-at.result in
    let k = known c in
    let all : at - 0 ≡ at = omega arith in
    let front : c.range.result.now ≡ take at text = c.range.ensures.value ∙ ap (λ n. take n text) all in
    k.1 ∙ sym (of_front text c.if-self-at.from.0 at k.0) ∙ ap (λ xs. place_of xs c.if-self-at.from.0) (sym front)
