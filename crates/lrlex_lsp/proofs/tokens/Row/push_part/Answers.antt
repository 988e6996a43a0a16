use Rattle.std.proofs.Common.{◌≡◌, ◌+◌, ◌-◌, ◌^◌, ◌<◌, [], ◌∷◌, inl, inr, ℕ, List, Some, false, length, min, refl, sym, ◌∙◌, ap, ap₂, subst, arith}
use Rattle.std.proofs.lemmas.Bool.{cases_lt, eqb-false}
use Rattle.lrlex_positions.specs.Columns.{width}
use Rattle.lrlex_positions.specs.Positions.{position_of}
use Rattle.lrlex_positions.specs.declared.encoding.PositionEncoding.{PositionEncoding}
use Rattle.lrlex_lsp.specs.Rows.{IsAt, GoesTo}
use Rattle.lrlex_lsp.specs.Tokens.{part_token, Token, AreTold}
use Rattle.lrlex_lsp.specs.declared.tokens.Row.{Row}
use Rattle.lrlex_lsp.proofs.TokenLemmas.{PartOn, part_on}
use Rattle.lrlex_lsp.proofs.ToldLemmas.{told_none}
use Rattle.lrlex_lsp.proofs.tokens.Row.push_part.Goals as goal
use Rattle.lrlex_lsp.proofs.tokens.Row.push_part.Goals.{in-Some+in_ok-push, in_default}

-- a part that has a byte
some_token : (encoding : PositionEncoding) (text : List ℕ) (kind at : ℕ) (part : List ℕ) → 0 < length part
    → part_token encoding text (Some kind) at part ≡ record { place = position_of encoding text at; columns = width encoding part; kind = kind } ∷ []
some_token encoding text kind at [] h = absurd (omega (arith, h))
some_token encoding text kind at (b ∷ bs) h = refl

-- the row behind a part
gone : (text : List ℕ) (at : ℕ) (row mid : Row) (part : List ℕ) (tokens : List Token) (columns many : ℕ) → PartOn row.encoding text at row.place part
    → AreTold tokens row.last mid.last row.tokens.numbers.items mid.tokens.numbers.items → mid.encoding ≡ row.encoding → mid.place ≡ row.place
    → many ≡ width row.encoding part → columns ≡ min (mid.place.1 + many) (2 ^ 64 - 1)
    → GoesTo text (at + length part) tokens row (record { encoding = mid.encoding; tokens = mid.tokens; place = (mid.place.0, columns); returned = false; last = mid.last })
gone text at row mid part tokens columns many on told same place wide is =
    let there : (row.place.0, min (row.place.1 + width row.encoding part) (2 ^ 64 - 1)) ≡ (mid.place.0, columns) =
    ap₂ (λ (p : ℕ × ℕ) (n : ℕ). (p.0, min (p.1 + n) (2 ^ 64 - 1))) (sym place) (sym wide) ∙ ap (λ n. (mid.place.0, n)) (sym is) in
    record {
      encoding = same;
      told = told;
      place = subst (λ e. IsAt e text (at + length part) (mid.place.0, columns) false) (sym same) (subst (λ p. IsAt row.encoding text (at + length part) p false) there on.ends);
    }

pub returns : goal.returns
returns c text rest at small here e none =
    let row = c.args.self.now in
    let part = c.args.part.now in
    let some : 0 < length part = elim (cases_lt 0 (length part)) [
      | inl l ↦ l
      | inr g ↦ absurd (eqb-false (length part) 0 (sym c.is_empty.ensures ∙ c.if-is_empty.false) (omega (arith, g)))
    ] in
    let on = part_on row.encoding text at row.place row.returned part rest here small c.utf8.part e some none in
    elim c.match-kind.branch [
      | in-Some+in_ok-push w ↦
          let its : record { place = row.place; columns = c.width-length.result; kind = w.in-Some.kind } ∷ [] ≡ part_token row.encoding text c.args.kind at part =
          ap₂ (λ (p : ℕ × ℕ) (n : ℕ). let t : Token = record { place = p; columns = n; kind = w.in-Some.kind } in t ∷ []) on.begins c.width-length.ensures
          ∙ sym (some_token row.encoding text w.in-Some.kind at part some) ∙ ap (λ k. part_token row.encoding text k at part) (sym w.in-Some.is) in
          gone text at row c.match-kind.self part (part_token row.encoding text c.args.kind at part) c.saturating_add.result c.width-length.result on
          (subst (λ r. AreTold (part_token row.encoding text c.args.kind at part) row.last r.last row.tokens.numbers.items r.tokens.numbers.items) (sym w.self-is)
          (subst (λ ts. AreTold ts row.last w.push.new.self.last row.tokens.numbers.items w.push.new.self.tokens.numbers.items) its w.in_ok-push.ensures.told))
          (ap (λ r. r.encoding) w.self-is ∙ w.in_ok-push.ensures.encoding) (ap (λ r. r.place) w.self-is ∙ w.in_ok-push.ensures.place)
          c.width-length.ensures c.saturating_add.ensures
      | in_default w ↦
          let none : [] ≡ part_token row.encoding text c.args.kind at part = ap (λ k. part_token row.encoding text k at part) (sym w.in_default.is) in
          gone text at row c.match-kind.self part (part_token row.encoding text c.args.kind at part) c.saturating_add.result c.width-length.result on
          (subst (λ r. AreTold (part_token row.encoding text c.args.kind at part) row.last r.last row.tokens.numbers.items r.tokens.numbers.items) (sym w.self-is)
          (subst (λ ts. AreTold ts row.last row.last row.tokens.numbers.items row.tokens.numbers.items) none (told_none row.last row.tokens.numbers.items)))
          (ap (λ r. r.encoding) w.self-is) (ap (λ r. r.place) w.self-is)
          c.width-length.ensures c.saturating_add.ensures
    ]
