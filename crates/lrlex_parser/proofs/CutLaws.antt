-- A text is cut in one way.
use Rattle.std.proofs.Common.{◌≡◌, ℕ, ◌+◌, Bool, true, false, List, [], ◌∷◌, length, map, refl, sym, ap, ◌∙◌, arith}
use Rattle.std.specs.Prelude.{encode_utf8_all}
use Rattle.std.specs.Char.{len_utf8}
use Rattle.std.specs.Str.{NonePass}
use Rattle.std.proofs.lemmas.List.Elements.{All-head, All-tail, All-cons}
use Rattle.lrlex_parser.specs.Text.{Piece, piece, cut_chars, rejoined, IsCut, pieces_at}
use Rattle.lrlex_parser.proofs.Cuts.{cut_chars_none, cut_chars_first}

abbrev texts : List Piece → List (List ℕ)
texts xs = map (λ y. y.text) xs

-- ---- a cut has the pieces that cutting gives

pub only_cut : (p : ℕ → Bool) (o : ℕ) (all : List ℕ) (pieces : List (List ℕ)) (between : List ℕ)
    → IsCut p all pieces between → map (λ y. y.text) (cut_chars p o all) ≡ map encode_utf8_all pieces
only_cut p o all [] between h = absurd (omega (arith, h.count))
only_cut p o all (t ∷ []) [] h = ap (λ xs. texts (cut_chars p o xs)) (sym h.joined) ∙ ap texts (cut_chars_none p o t (All-head (NonePass p) t [] h.inside))
only_cut p o all (t ∷ u ∷ ts) [] h = absurd (omega (arith, h.count))
only_cut p o all (t ∷ ts) (c ∷ cs) h =
    let rest : IsCut p (rejoined ts cs) ts cs =
    record { joined = refl; count = omega (arith, h.count); inside = All-tail (NonePass p) t ts h.inside; between_pass = All-tail (λ d. p d ≡ true) c cs h.between_pass } in
    ap (λ xs. texts (cut_chars p o xs)) (sym h.joined)
    ∙ ap texts (cut_chars_first p o t c (rejoined ts cs) (All-head (NonePass p) t ts h.inside) (All-head (λ d. p d ≡ true) c cs h.between_pass))
    ∙ ap (λ xs. encode_utf8_all t ∷ xs) (only_cut p (o + (length (encode_utf8_all t) + len_utf8 c)) (rejoined ts cs) ts cs rest)

-- at these offsets
pub offsets_cut : (p : ℕ → Bool) (o : ℕ) (all : List ℕ) (pieces : List (List ℕ)) (between : List ℕ)
    → IsCut p all pieces between → cut_chars p o all ≡ pieces_at o pieces between
offsets_cut p o all [] between h = absurd (omega (arith, h.count))
offsets_cut p o all (t ∷ []) [] h = ap (cut_chars p o) (sym h.joined) ∙ cut_chars_none p o t (All-head (NonePass p) t [] h.inside)
offsets_cut p o all (t ∷ u ∷ ts) [] h = absurd (omega (arith, h.count))
offsets_cut p o all (t ∷ ts) (c ∷ cs) h =
    let rest : IsCut p (rejoined ts cs) ts cs =
    record { joined = refl; count = omega (arith, h.count); inside = All-tail (NonePass p) t ts h.inside; between_pass = All-tail (λ d. p d ≡ true) c cs h.between_pass } in
    ap (cut_chars p o) (sym h.joined)
    ∙ cut_chars_first p o t c (rejoined ts cs) (All-head (NonePass p) t ts h.inside) (All-head (λ d. p d ≡ true) c cs h.between_pass)
    ∙ ap (λ xs. piece o (encode_utf8_all t) ∷ xs) (offsets_cut p (o + (length (encode_utf8_all t) + len_utf8 c)) (rejoined ts cs) ts cs rest)

-- ---- there is a cut

abbrev pub HasCut : (ℕ → Bool) → List ℕ → Type 0
HasCut p all = (pieces : List (List ℕ)) × (between : List ℕ) × IsCut p all pieces between

put_first : (p : ℕ → Bool) (c : ℕ) (all : List ℕ) (pieces : List (List ℕ)) (between : List ℕ) → p c ≡ false → IsCut p all pieces between → HasCut p (c ∷ all)
put_first p c all [] between fails h = absurd (omega (arith, h.count))
put_first p c all (t ∷ ts) [] fails h =
    ((c ∷ t) ∷ ts, [], record { joined = ap (λ xs. c ∷ xs) h.joined; count = h.count; inside = All-cons (NonePass p) (c ∷ t) ts (fails, All-head (NonePass p) t ts h.inside) (All-tail (NonePass p) t ts h.inside); between_pass = h.between_pass })
put_first p c all (t ∷ ts) (d ∷ ds) fails h =
    ((c ∷ t) ∷ ts, d ∷ ds, record { joined = ap (λ xs. c ∷ xs) h.joined; count = h.count; inside = All-cons (NonePass p) (c ∷ t) ts (fails, All-head (NonePass p) t ts h.inside) (All-tail (NonePass p) t ts h.inside); between_pass = h.between_pass })

one_more : (p : ℕ → Bool) (c : ℕ) (all : List ℕ) → (b : Bool) → p c ≡ b → HasCut p all → HasCut p (c ∷ all)
one_more p c all true passes h =
    ([] ∷ h.0, c ∷ h.1, record { joined = ap (λ xs. c ∷ xs) h.2.joined; count = omega (arith, h.2.count); inside = All-cons (NonePass p) [] h.0 tt h.2.inside; between_pass = All-cons (λ d. p d ≡ true) c h.1 passes h.2.between_pass })
one_more p c all false fails h = put_first p c all h.0 h.1 fails h.2

pub some_cut : (p : ℕ → Bool) (all : List ℕ) → HasCut p all
some_cut p [] = ([] ∷ [], [], record { joined = refl; count = refl; inside = All-cons (NonePass p) [] [] tt (λ k d lt. absurd (omega arith)); between_pass = λ k d lt. absurd (omega arith) })
some_cut p (c ∷ all) = one_more p c all (p c) refl (some_cut p all)
