-- A loop over the lines of a section.
use Rattle.std.proofs.Common.{◌≡◌, ℕ, ◌+◌, ◌-◌, ◌≤◌, ◌<◌, Bool, true, false, cond, List, [], ◌∷◌, ◌++◌, length, map, Option, Some, None, refl, sym, ap, subst, ◌∙◌, arith}
use Rattle.std.specs.Prelude.{not, filter, take_while}
use Rattle.std.specs.Option.{IfSome}
use Rattle.std.proofs.lemmas.List.{append-nil, append_assoc}
use Rattle.std.proofs.lemmas.List.Sums.{take_while-cons}
use Rattle.lrlex_parser.specs.Text.{Piece, piece, cut_lines, lines_left}
use Rattle.lrlex_parser.specs.Declaration.{section_lines, is_skipped, ends_section, section_end}

-- one line more, in front
front : (comments : Bool) (x : Piece) (xs : List Piece) → section_lines comments (x ∷ xs) ≡ filter (λ (line : Piece). not (is_skipped comments line.text)) (cond (not (ends_section x.text)) (x ∷ take_while (λ (line : Piece). not (ends_section line.text)) xs) [])
front comments x xs = ap (filter (λ (line : Piece). not (is_skipped comments line.text))) (take_while-cons (λ (line : Piece). not (ends_section line.text)) x xs)

module _ (comments : Bool) (x : Piece) (xs : List Piece) where
  section_ends : ends_section x.text ≡ true → section_lines comments (x ∷ xs) ≡ []
  section_ends h = front comments x xs ∙ rw h refl

  section_skips : ends_section x.text ≡ false → is_skipped comments x.text ≡ true → section_lines comments (x ∷ xs) ≡ section_lines comments xs
  section_skips h skip = front comments x xs ∙ rw (h, skip) refl

  section_says : ends_section x.text ≡ false → is_skipped comments x.text ≡ false → section_lines comments (x ∷ xs) ≡ x ∷ section_lines comments xs
  section_says h skip = front comments x xs ∙ rw (h, skip) refl

module _ (v : Piece → Piece) (end : ℕ) (left : Option (List ℕ)) (rest first : List ℕ) (more : Option (List ℕ)) (is : left ≡ Some rest) (short : IfSome left (λ r. length r ≤ end))
    (next : (o : ℕ) → cut_lines (piece o rest) ≡ piece o first ∷ lines_left (o + length rest) more) where
  pub rest_short : length rest ≤ end
  rest_short = subst (λ (o : Option (List ℕ)). IfSome o (λ r. length r ≤ end)) is short

  -- the line at hand, and what is left behind it
  lines_here : map v (lines_left end left) ≡ v (piece (end - length rest) first) ∷ map v (lines_left end more)
  lines_here =
      let fits = rest_short in
      ap (λ (o : Option (List ℕ)). map v (lines_left end o)) is ∙ ap (map v) (next (end - length rest)) ∙ ap (λ (n : ℕ). v (piece (end - length rest) first) ∷ map v (lines_left n more)) (omega arith)

  module _ (comments : Bool) (said : List Piece) (all : List Piece) (so_far : said ++ section_lines comments (map v (lines_left end left)) ≡ all) where
    pub section_done : ends_section (v (piece (end - length rest) first)).text ≡ true → said ≡ all
    section_done h = sym (append-nil said) ∙ ap (λ (x : List Piece). said ++ x) (sym (ap (section_lines comments) lines_here ∙ section_ends comments (v (piece (end - length rest) first)) (map v (lines_left end more)) h)) ∙ so_far

    pub section_skipped : ends_section (v (piece (end - length rest) first)).text ≡ false → is_skipped comments (v (piece (end - length rest) first)).text ≡ true → said ++ section_lines comments (map v (lines_left end more)) ≡ all
    section_skipped h skip = ap (λ (x : List Piece). said ++ x) (sym (ap (section_lines comments) lines_here ∙ section_skips comments (v (piece (end - length rest) first)) (map v (lines_left end more)) h skip)) ∙ so_far

    pub section_said : ends_section (v (piece (end - length rest) first)).text ≡ false → is_skipped comments (v (piece (end - length rest) first)).text ≡ false
        → (said ++ v (piece (end - length rest) first) ∷ []) ++ section_lines comments (map v (lines_left end more)) ≡ all
    section_said h skip = append_assoc said (v (piece (end - length rest) first) ∷ []) (section_lines comments (map v (lines_left end more))) ∙ ap (λ (x : List Piece). said ++ x) (sym (ap (section_lines comments) lines_here ∙ section_says comments (v (piece (end - length rest) first)) (map v (lines_left end more)) h skip)) ∙ so_far

  module _ (mark : Option Piece) (so_far : section_end (map v (lines_left end left)) ≡ mark) where
    pub mark_found : ends_section (v (piece (end - length rest) first)).text ≡ true → Some (v (piece (end - length rest) first)) ≡ mark
    mark_found h = sym (ap (section_end) lines_here ∙ rw h refl) ∙ so_far

    pub mark_later : ends_section (v (piece (end - length rest) first)).text ≡ false → section_end (map v (lines_left end more)) ≡ mark
    mark_later h = sym (ap (section_end) lines_here ∙ rw h refl) ∙ so_far

pub still_short : (end : ℕ) (rest : List ℕ) (more : Option (List ℕ)) → length rest ≤ end → IfSome more (λ r. length r < length rest) → IfSome more (λ r. length r ≤ end)
still_short end rest None h k = tt
still_short end rest (Some r) h k = omega arith
