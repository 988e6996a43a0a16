-- Lines that end in a text.
use Rattle.std.proofs.Common.{◌≡◌, ℕ, ◌≤◌, List, [], ◌∷◌, ◌++◌, sym, subst, arith}
use Rattle.std.proofs.lemmas.Grind.{common_steps}
use Rattle.lrlex_parser.specs.declared.text.Line.{Line}
use Rattle.lrlex_parser.specs.LexParser.{EndBy, line_end}

ends_more : (e : ℕ) (xs : List Line) (x : Line) → EndBy e xs → line_end x ≤ e → EndBy e (xs ++ x ∷ [])
ends_more e xs x h k i d lt = grind (arith, common_steps, h i d)

pub ends_push : (e : ℕ) (xs ys : List Line) (x : Line) → ys ≡ xs ++ x ∷ [] → EndBy e xs → line_end x ≤ e → EndBy e ys
ends_push e xs ys x is h k = let P : List Line → Type 0 = λ zs. EndBy e zs in subst P (sym is) (ends_more e xs x h k)
