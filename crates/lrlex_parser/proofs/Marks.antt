-- Where a section ends.
use Rattle.std.proofs.Common.{◌≡◌, ℕ, ◌+◌, ◌-◌, ◌<◌, ◌≤◌, true, false, eqb, List, [], ◌∷◌, length, get_or, take, drop, Option, Some, None, sym, ap, subst, ◌∙◌, arith}
use Rattle.std.specs.Option.{IfSome}
use Rattle.std.specs.Cmp.{first_so, second_so}
use Rattle.std.specs.Str.{IsUtf8, IsCharBoundary}
use Rattle.std.proofs.lemmas.Bool.{eqb-true, true≢false}
use Rattle.std.proofs.lemmas.Str.{IsCharBoundary-after_ascii}
use Rattle.std.proofs.lemmas.List.{get_or-drop, get_or-take, drop-drop}
use Rattle.lrlex_parser.specs.declared.text.Line.{Line}
use Rattle.lrlex_parser.specs.Declaration.{ends_section}
use Rattle.lrlex_parser.specs.LexParser.{StandsIn, MarkAt}

pub percent : (t : List ℕ) → ends_section t ≡ true → (1 < length t) × (get_or t 1 0 ≡ 37)
percent [] h = cc
percent (x ∷ []) h = let bad : false ≡ true = second_so (eqb 37 x) false h in absurd (true≢false (sym bad))
percent (x ∷ y ∷ zs) h =
    let second : eqb 37 y ≡ true = first_so _ _ (second_so _ _ h) in
    (omega arith, sym (eqb-true 37 y second))

pub mark_at : (at n : ℕ) (text rest first : List ℕ) (line : Line) → n + length rest ≡ length text → rest ≡ drop n text → first ≡ take (length first) rest → length first ≤ length rest
    → StandsIn (at + n) first line → ends_section line.text.now ≡ true → MarkAt at text line
mark_at at n text rest first line size suffix front short stands ends =
    let two = percent line.text.now ends in
    let low = stands.from in
    let high = stands.to in
    let d = line.at - (at + n) in
    let long : 1 < length line.text.now = two.0 in
    let inside : d + 1 < length first = omega arith in
    let here : get_or line.text.now 1 0 ≡ get_or first (d + 1) 0 =
    ap (λ (t : List ℕ). get_or t 1 0) (sym stands.is) ∙ get_or-take (length line.text.now) (drop d first) 1 0 long ∙ get_or-drop d first 1 0 in
    let there : get_or first (d + 1) 0 ≡ get_or text (n + (d + 1)) 0 =
    ap (λ (t : List ℕ). get_or t (d + 1) 0) front ∙ get_or-take (length first) rest (d + 1) 0 inside ∙ ap (λ (t : List ℕ). get_or t (d + 1) 0) suffix ∙ get_or-drop n text (d + 1) 0 in
    let place : n + (d + 1) ≡ (line.at - at) + 1 = omega arith in
    record {
      from = omega arith;
      room = omega arith;
      percent = ap (λ (k : ℕ). get_or text k 0) (sym place) ∙ sym there ∙ sym here ∙ two.1;
    }

pub behind_boundary : (at : ℕ) (text : List ℕ) (mark : Line) → IsUtf8 text → MarkAt at text mark → IsCharBoundary text ((mark.at - at) + 2)
behind_boundary at text mark u m =
    let is = m.percent in
    let n = (mark.at - at) + 1 in
    let low : get_or text n 0 < 128 = omega arith in
    subst (IsCharBoundary text) (omega arith) (IsCharBoundary-after_ascii text n u m.room low)

-- what is left of a text stands at its end
abbrev pub EndsText : List ℕ → List ℕ → Type 0
EndsText text rest = (rest ≡ drop (length text - length rest) text) × (length rest ≤ length text)

pub suffix_here : (text : List ℕ) (left : Option (List ℕ)) (rest : List ℕ) → left ≡ Some rest → IfSome left (λ r. (r ≡ drop (length text - length r) text) × (length r ≤ length text)) → EndsText text rest
suffix_here text left rest is h = subst (λ (o : Option (List ℕ)). IfSome o (λ r. (r ≡ drop (length text - length r) text) × (length r ≤ length text))) is h

pub suffix_more : (text rest : List ℕ) (more : Option (List ℕ)) → EndsText text rest → IfSome more (λ m. length m < length rest) → IfSome more (λ m. m ≡ drop (length rest - length m) rest)
    → IfSome more (λ r. (r ≡ drop (length text - length r) text) × (length r ≤ length text))
suffix_more text rest None e h k = tt
suffix_more text rest (Some m) e h k =
    let short = e.1 in
    let n : (length text - length rest) + (length rest - length m) ≡ length text - length m = omega arith in
    (k ∙ ap (drop (length rest - length m)) e.0 ∙ drop-drop (length rest - length m) (length text - length rest) text ∙ ap (λ (i : ℕ). drop i text) n, omega arith)

pub mark_here : (at : ℕ) (text rest first : List ℕ) (line : Line) → EndsText text rest → first ≡ take (length first) rest → length first ≤ length rest
    → StandsIn ((at + length text) - length rest) first line → ends_section line.text.now ≡ true → MarkAt at text line
mark_here at text rest first line e front short stands ends =
    let fits = e.1 in
    let n : (at + length text) - length rest ≡ at + (length text - length rest) = omega arith in
    let size : (length text - length rest) + length rest ≡ length text = omega arith in
    mark_at at (length text - length rest) text rest first line size e.0 front short (subst (λ (k : ℕ). StandsIn k first line) n stands) ends
