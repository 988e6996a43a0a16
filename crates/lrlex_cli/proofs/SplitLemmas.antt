-- The first line `----` of a text.
use Rattle.std.proofs.Common.{◌≡◌, ◌≢◌, ◌⊎◌, inl, inr, ℕ, ◌+◌, ◌-◌, ◌<◌, ◌≤◌, List, [], ◌∷◌, ◌++◌, length, take, drop, refl, sym, ◌∙◌, ap, append_assoc, arith, length-append, take-append-drop, subst, Bool, true, false}
use Rattle.std.specs.Prelude.{codes, slice_range}
use Rattle.std.proofs.lemmas.List.{length-take-le}
use Rattle.std.specs.Str.Pattern.{LacksTextAt, HasTextAt}
use Rattle.lrlex_cli.specs.Texts.{IsWholeLines, HasMarkBetween, IsSplit}

-- the text doesn't begin with the mark's line
abbrev pub LacksFront : List ℕ → Type 0
LacksFront s = (rest : List ℕ) → s ≢ codes "----\n" ++ rest

-- the mark's line does not follow a line that ends below n
abbrev pub LacksBelow : List ℕ → ℕ → Type 0
LacksBelow s n = (i : ℕ) → i < n → LacksTextAt (codes "\n----\n") s i

-- what follows a front
past : (f x : List ℕ) → drop (length f) (f ++ x) ≡ x
past [] x = refl
past (y ∷ f) x = past f x

-- what is in a front
within : (f x : List ℕ) → take (length f) (f ++ x) ≡ f
within [] x = refl
within (y ∷ f) x = ap (λ (l : List ℕ). y ∷ l) (within f x)

-- a mark is further on, or ends the text
pub placed : (s b a : List ℕ) (n : ℕ) → LacksFront s → LacksBelow s n → HasMarkBetween s b a → (n < length b) ⊎ (s ≡ b ++ codes "----")
placed s b a n front below m =
    elim m.parts [
      | inl e ↦ elim m.lines [
        | inl z ↦ absurd (front a (e ∙ ap (λ (x : List ℕ). x ++ (codes "----" ++ 10 ∷ a)) z))
        | inr w ↦
            let whole : s ≡ w.0 ++ (codes "\n----\n" ++ a) = e ∙ ap (λ (x : List ℕ). x ++ (codes "----" ++ 10 ∷ a)) w.1 ∙ append_assoc w.0 (10 ∷ []) (codes "----" ++ 10 ∷ a) in
            let far : length w.0 < n → ⊥ = λ h. below (length w.0) h a (ap (drop (length w.0)) whole ∙ past w.0 (codes "\n----\n" ++ a)) in
            inl (omega (arith, ap length w.1, length-append {A = ℕ}))
      ]
      | inr p ↦ inr p.0
    ]

-- the text is split where the first mark follows a line's end
pub split_found : (s front rest : List ℕ) → LacksFront s → LacksBelow s (length front) → s ≡ front ++ (codes "\n----\n" ++ rest) → IsSplit s (front ++ 10 ∷ []) rest
split_found s front rest none below e =
    inl (
      record {
        lines = inr (front, refl);
        parts = inl (e ∙ sym (append_assoc front (10 ∷ []) (codes "----\n" ++ rest)));
      },
      λ b a m. elim (placed s b a (length front) none below m) [
        | inl h ↦ omega (arith, length-append {A = ℕ})
        | inr w ↦ omega (arith, ap length w, ap length e, length-append {A = ℕ})
      ],
    )

-- the text is split at the place that `find` returns
pub split_found_at : (s before after : List ℕ) (at j : ℕ) → LacksFront s → LacksBelow s at → HasTextAt (codes "\n----\n") s at j → at ≤ length s
    → before ≡ slice_range s 0 (at + 1) → after ≡ drop (at + 6) s → IsSplit s before after
split_found_at s before after at j none below here fits b a =
    let front : List ℕ = take at s in
    let count : length front ≡ at = length-take-le at s fits in
    let e : s ≡ front ++ (codes "\n----\n" ++ after) =
    sym (take-append-drop at s) ∙ ap (λ (l : List ℕ). front ++ l) (here.split ∙ ap (λ (k : ℕ). codes "\n----\n" ++ drop k s) here.ends ∙ ap (λ (l : List ℕ). codes "\n----\n" ++ l) (sym a)) in
    let one : at + 1 - 0 ≡ length (front ++ 10 ∷ []) = omega (arith, length-append {A = ℕ}) in
    let cut : before ≡ front ++ 10 ∷ [] =
    b ∙ ap (λ (k : ℕ). take k s) one ∙ ap (take (length (front ++ 10 ∷ []))) (e ∙ sym (append_assoc front (10 ∷ []) (codes "----\n" ++ after))) ∙ within (front ++ 10 ∷ []) (codes "----\n" ++ after) in
    subst (λ (l : List ℕ). IsSplit s l after) (sym cut) (split_found s front after none (λ i h. below i (omega arith)) e)

-- where the text ends with the mark, and holds no other
pub split_end : (s front : List ℕ) → LacksFront s → LacksBelow s (length s + 1) → IsWholeLines front → s ≡ front ++ codes "----" → IsSplit s front []
split_end s front none below lines e =
    inl (
      record { lines = lines; parts = inr (e, refl) },
      λ b a m. elim (placed s b a (length s + 1) none below m) [
        | inl h ↦ omega (arith, ap length e, length-append {A = ℕ})
        | inr w ↦ omega (arith, ap length w, ap length e, length-append {A = ℕ})
      ],
    )

-- where it holds none
pub split_none : (s : List ℕ) → LacksFront s → LacksBelow s (length s + 1) → ((front : List ℕ) → IsWholeLines front → s ≢ front ++ codes "----") → IsSplit s s []
split_none s none below end =
    inr (
      (λ b a m. elim (placed s b a (length s + 1) none below m) [
        | inl h ↦ elim m.parts [
          | inl e ↦ absurd (omega (arith, ap length e, length-append {A = ℕ}))
          | inr p ↦ end b m.lines p.0
        ]
        | inr w ↦ end b m.lines w
      ]),
      refl,
      refl,
    )

-- a text is whole lines where it is empty or its last byte is U+000A
pub whole_lines : (bs : List ℕ) → (length bs ≡ 0) ⊎ ((front : List ℕ) × (bs ≡ front ++ 10 ∷ [])) → IsWholeLines bs
whole_lines [] h = inl refl
whole_lines (b ∷ bs) h = elim h [ inl e ↦ absurd (omega arith) | inr w ↦ inr w ]

-- a text is not whole lines where it has bytes and its last is not U+000A
pub broken_line : (bs : List ℕ) (r : Bool) → length bs ≢ 0 → ((front : List ℕ) → bs ≡ front ++ 10 ∷ [] → r ≡ true) → r ≡ false → IsWholeLines bs → ⊥
broken_line bs r some ends f h = elim h [ inl e ↦ some (ap length e) | inr w ↦ absurd (cc (ends w.0 w.1, f)) ]
