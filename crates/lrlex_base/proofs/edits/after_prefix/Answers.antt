use Rattle.std.proofs.Common.{◌≡◌, ◌≢◌, ◌++◌, ◌+◌, List, ℕ, Option, Some, None, MatchOption, Bor, true, false, length, take, drop, refl, sym, ◌∙◌, ap}
use Rattle.std.specs.Str.{bytes_eq}
use Rattle.std.proofs.lemmas.Slice.Eq.{bytes_eq-Decides}
use Rattle.std.proofs.lemmas.List.{take-append-drop, take_at}
use Rattle.lrlex_base.proofs.edits.after_prefix.Goals as goal

abbrev Cases : List ℕ → List ℕ → Option (Bor (List ℕ)) → Type 0
Cases bytes front r = MatchOption r (bytes_eq (take (length front) bytes) front ≡ false) (λ x. (bytes_eq (take (length front) bytes) front ≡ true) × (x.now ≡ drop (length front) bytes) × (length x.now + length front ≡ length bytes))

after_prefix_is : (bytes front : List ℕ) (r : Option (Bor (List ℕ))) → Cases bytes front r
    → MatchOption r ((rest : List ℕ) → bytes ≢ front ++ rest) (λ rest. bytes ≡ front ++ rest.now)
after_prefix_is bytes front None h = λ rest e.
    let same : take (length front) bytes ≡ front = ap (take (length front)) e ∙ take_at front rest (length front) refl in
    let yes : bytes_eq (take (length front) bytes) front ≡ true = (bytes_eq-Decides (take (length front) bytes) front).1 same in
    let no : bytes_eq (take (length front) bytes) front ≡ false = h in
    let wrong : true ≡ false = sym yes ∙ no in
    cc
after_prefix_is bytes front (Some x) h =
    let same : take (length front) bytes ≡ front = (bytes_eq-Decides (take (length front) bytes) front).0 h.0 in
    sym (take-append-drop (length front) bytes) ∙ ap (λ l. l ++ drop (length front) bytes) same ∙ ap (λ l. front ++ l) (sym h.1)

pub returns : goal.returns
returns c = after_prefix_is c.args.bytes.now c.args.prefix.now c.strip_prefix.result c.strip_prefix.ensures.cases
