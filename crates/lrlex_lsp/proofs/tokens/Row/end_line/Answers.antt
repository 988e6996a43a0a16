use Rattle.std.proofs.Common.{◌≡◌, ◌+◌, inl, inr, true, false, eqb, refl, sym, ◌∙◌, subst}
use Rattle.lrlex_lsp.specs.Rows.{IsAt}
use Rattle.lrlex_lsp.proofs.TokenLemmas.{ended_on, end_on}
use Rattle.lrlex_lsp.proofs.ToldLemmas.{told_none}
use Rattle.lrlex_lsp.proofs.tokens.Row.end_line.Goals as goal

pub returns-then-byte-eq10 : goal.returns-then-byte-eq10
returns-then-byte-eq10 c text rest at small here e =
    let row = c.args.self.now in
    record {
      encoding = refl;
      told = told_none row.last row.tokens.numbers.items;
      place = ended_on row.encoding text at c.args.byte row.place rest (subst (IsAt row.encoding text at row.place) c.if-self.true here) small e c.if-byte-eq10.true;
    }

pub returns-else-self : goal.returns-else-self
returns-else-self c text rest at small here e =
    let row = c.args.self.now in
    let first : row.returned ≡ true → c.args.byte ≡ 10 → ⊥ = λ r n. elim c.else-self.either [ inl l ↦ l.1 n | inr l ↦ (let wrong : true ≡ false = sym r ∙ l in cc) ] in
    record {
      encoding = refl;
      told = told_none row.last row.tokens.numbers.items;
      place = subst (λ n. IsAt row.encoding text (at + 1) (n, 0) (eqb c.args.byte 13)) (sym c.saturating_add.ensures) (end_on row.encoding text at c.args.byte row.place row.returned rest here small e c.requires first);
    }
