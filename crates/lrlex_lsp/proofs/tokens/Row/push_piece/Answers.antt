use Rattle.std.proofs.Common.{◌≡◌, ◌+◌, ◌-◌, ◌<◌, ◌≤◌, ◌++◌, ◌∷◌, inl, inr, true, false, length, take, drop, get_or, IsCharBoundary, sym, ◌∙◌, ap, subst, arith}
use Rattle.std.proofs.lemmas.Bool.{cases_lt}
use Rattle.std.proofs.lemmas.List.{length-drop, drop-drop, drop-append-le}
use Rattle.std.proofs.lemmas.Str.{IsCharBoundary-start, IsCharBoundary-after_ascii}
use Rattle.lrlex_lsp.specs.Rows.{IsPartOfLine}
use Rattle.lrlex_lsp.specs.Tokens.{ends_line}
use Rattle.lrlex_lsp.proofs.TokenLemmas.{end_byte}
use Rattle.lrlex_lsp.proofs.ToldLemmas.{IsWalked, walk_starts, walk_on, walk_ends, IsPartAt, part_at, part_of_line, last_part}
use Rattle.lrlex_lsp.proofs.tokens.Row.push_piece.Goals as goal
use Rattle.lrlex_lsp.proofs.tokens.Row.push_piece.Goals.{then-ends_line+in_ok-push_part, else-ends_line}

pub loop-at-init : goal.loop-at-init
loop-at-init c = record {
  order = omega arith;
  fits = IsCharBoundary-start c.args.text.now c.utf8.text;
  none = λ i h l. absurd (omega (arith, l));
  walked = λ text rest start small here e. walk_starts text c.args.kind start c.args.text.now c.args.self.now here;
}

pub loop-at-preserved : goal.loop-at-preserved
loop-at-preserved c =
    let piece = c.args.text.now in
    let known = c.loop-at.invariant in
    let begin = c.loop-at.begin in
    let at = c.loop-at.at in
    let within : at < length piece = omega (arith, c.loop-at-test.true, ap length c.as_bytes-bytes.ensures.value) in
    let byte : c.ends_line.result ≡ ends_line (get_or piece at 0) = c.ends_line.ensures ∙ ap (λ t. ends_line (get_or t at 0)) c.as_bytes-bytes.ensures.value in
    elim c.if-ends_line.branch [
      | then-ends_line+in_ok-push_part w ↦
          let ends : ends_line (get_or piece at 0) ≡ true = sym byte ∙ w.if-ends_line.true in
          let low : get_or piece at 0 < 128 = elim (end_byte (get_or piece at 0) ends) [ inl n ↦ omega (arith, n) | inr r ↦ omega (arith, r) ] in
          record {
            order = omega (arith, w.begin-is);
            fits = subst (IsCharBoundary piece) (sym w.begin-is) (IsCharBoundary-after_ascii piece at c.utf8.text within low);
            none = λ i h l. absurd (omega (arith, h, l, w.begin-is));
            walked = λ text rest start small here e.
                let part = w.range.result.now in
                let is : part ≡ take (at - begin) (drop begin piece) = w.range.ensures.value in
                let parts = subst (IsPartAt text start begin at piece rest) (sym is) (part_at text start begin at piece rest known.order within e) in
                let of_line : IsPartOfLine part = subst IsPartOfLine (sym is) (part_of_line begin at piece known.order (omega (arith, within)) known.none) in
                let before = known.walked text rest start small here e in
                let one = w.in_ok-push_part.ensures text ((get_or piece at 0 ∷ drop (at + 1) piece) ++ rest) (start + begin) small before.goes.place parts.in_text of_line in
                let same : get_or piece at 0 ≡ get_or c.as_bytes-bytes.result.now at 0 = sym (ap (λ t. get_or t at 0) c.as_bytes-bytes.ensures.value) in
                let two = w.end_line.ensures text (drop (at + 1) piece ++ rest) (start + begin + length part) small one.place (parts.behind ∙ ap (λ b. b ∷ (drop (at + 1) piece ++ rest)) same) in
                let next : at + 1 ≡ begin + length part + 1 = omega (arith, parts.long, known.order) in
                subst (λ r. IsWalked text c.args.kind start c.if-ends_line.begin piece c.args.self.now r) (sym w.self-is)
                (subst (λ k. IsWalked text c.args.kind start k piece c.args.self.now w.end_line.new.self) (sym w.begin-is)
                (walk_on text c.args.kind start begin (at + 1) (get_or piece at 0) piece part c.args.self.now c.loop-at.self w.push_part.new.self w.end_line.new.self before one two parts.in_piece ends of_line next));
          }
      | else-ends_line w ↦
          let other : ends_line (get_or piece at 0) ≡ false = sym byte ∙ w.if-ends_line.false in
          record {
            order = omega (arith, w.begin-is, known.order);
            fits = subst (IsCharBoundary piece) (sym w.begin-is) known.fits;
            none = λ i h l. elim (cases_lt i at) [
              | inl m ↦ known.none i (omega (arith, h, w.begin-is)) m
              | inr m ↦ let same : at ≡ i = omega (arith, l, m) in subst (λ k. ends_line (get_or piece k 0) ≡ false) same other
            ];
            walked = λ text rest start small here e.
                subst (λ r. IsWalked text c.args.kind start c.if-ends_line.begin piece c.args.self.now r) (sym w.self-is)
                (subst (λ k. IsWalked text c.args.kind start k piece c.args.self.now c.loop-at.self) (sym w.begin-is) (known.walked text rest start small here e));
          }
    ]

pub returns : goal.returns
returns c text rest start small here e =
    let piece = c.args.text.now in
    let known = c.loop-at.invariant in
    let begin = c.loop-at.begin in
    let part = c.range_from.result.now in
    let is : part ≡ drop begin piece = c.range_from.ensures.value in
    let all : length piece ≤ c.loop-at.at = omega (arith, c.loop-at-test.false, ap length c.as_bytes-bytes.ensures.value) in
    let of_line : IsPartOfLine part = subst IsPartOfLine (sym is) (last_part begin piece (λ i h l. known.none i h (omega (arith, l, all)))) in
    let before = known.walked text rest start small here e in
    let in_text : drop (start + begin) text ≡ part ++ rest =
    sym (drop-drop begin start text) ∙ ap (drop begin) e ∙ drop-append-le begin piece rest known.fits.0 ∙ ap (λ xs. xs ++ rest) (sym is) in
    let one = c.in_ok-push_part-2.ensures text rest (start + begin) small before.goes.place in_text of_line in
    let end : start + begin + length part ≡ start + length piece = omega (arith, ap length is, length-drop begin piece, known.fits.0) in
    let goes = walk_ends text c.args.kind start begin piece part c.args.self.now c.loop-at.self c.push_part-2.new.self before one (sym is) of_line end in
    record { encoding = goes.encoding; told = goes.told; place = goes.place }
