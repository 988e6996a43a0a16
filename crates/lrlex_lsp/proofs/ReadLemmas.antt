-- What is told is what a client reads.
use Rattle.std.proofs.Common.{◌≡◌, inl, inr, ℕ, ◌+◌, ◌-◌, ◌^◌, ◌<◌, true, false, cond, eqb, nat_lt, List, [], ◌∷◌, refl, ◌∙◌, ap, ap₂, arith}
use Rattle.std.proofs.lemmas.Bool.{eq-eqb, ne_eqb, lt-ltb, le-ltb}
use Rattle.lrlex_positions.specs.Positions.{IsUpTo}
use Rattle.lrlex_lsp.specs.Tokens.{AreReadable, Token, numbers_of, reached, short, tokens_read, told_from}

short_same : (n : ℕ) → n < 2 ^ 32 → short n ≡ n
short_same n h = omega (arith, h)

-- how far a place is leads there
pub reached_told : (last place : ℕ × ℕ) → IsUpTo last place → reached last (told_from last place) ≡ place
reached_told last place up =
    let right : ℕ = cond (nat_lt last.0 place.0) place.1 (place.1 - last.1) in
    elim up [
      | inl l ↦
          let below : right ≡ place.1 = ap (λ v. cond v place.1 (place.1 - last.1)) (lt-ltb last.0 place.0 l) in
          let some : eqb (place.0 - last.0) 0 ≡ false = ne_eqb (place.0 - last.0) 0 (λ e. omega (arith, e, l)) in
          ap₂ (λ n m. (n, m)) (omega (arith, l)) (ap (λ v. cond v (last.1 + right) right) some ∙ below)
      | inr m ↦
          let beside : right ≡ place.1 - last.1 = ap (λ v. cond v place.1 (place.1 - last.1)) (le-ltb last.0 place.0 (omega (arith, m.0))) in
          let none : eqb (place.0 - last.0) 0 ≡ true = eq-eqb (place.0 - last.0) 0 (omega (arith, m.0)) in
          let there : last.1 + right ≡ place.1 = omega (arith, beside, m.1) in
          ap₂ (λ n m. (n, m)) (omega (arith, m.0)) (ap (λ v. cond v (last.1 + right) right) none ∙ there)
    ]

pub read_told : (last : ℕ × ℕ) (tokens : List Token) → AreReadable last tokens → tokens_read last (numbers_of last tokens) ≡ tokens
read_told last [] h = refl
read_told last (t ∷ ts) h =
    let told = told_from last t.place in
    let place : reached last (short told.0, short told.1) ≡ t.place =
    ap₂ (λ (a b : ℕ). reached last (a, b)) (short_same told.0 h.1) (short_same told.1 h.2) ∙ reached_told last t.place h.0 in
    ap₂ (λ (p : ℕ × ℕ) (n : ℕ). let one : Token = record { place = p; columns = n; kind = t.kind } in one ∷ tokens_read p (numbers_of t.place ts)) place (short_same t.columns h.3)
    ∙ ap (λ rest. t ∷ rest) (read_told t.place ts h.4)
