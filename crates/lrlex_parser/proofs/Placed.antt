-- Pieces that stand in a text, both ends on character boundaries.
use Rattle.std.proofs.Common.{◌≡◌, ℕ, suc, ◌+◌, ◌-◌, ◌<◌, ◌≤◌, Bool, true, false, List, [], ◌∷◌, ◌++◌, length, get_or, take, drop, ⊎_elim, refl, sym, ap, subst, ◌∙◌, arith}
use Rattle.std.specs.Prelude.{if◌then◌else◌, not, ◌&&◌, All, reverse, encode_utf8_all}
use Rattle.std.specs.Char.{encode_utf8, len_utf8, IsScalar}
use Rattle.std.specs.Str.{chars, all_scalars, IsUtf8, IsCharBoundary}
use Rattle.std.specs.List.{list_any, prefix_len, suffix_len, position_or_len, before_first, before_last, after_last}
use Rattle.std.specs.Cmp.{first_so, second_so}
use Rattle.std.proofs.lemmas.Bool.{cases_lt, true≢false}
use Rattle.std.proofs.lemmas.List.{append-nil, append_assoc, take-append-drop, length-append, length-take-le, length-reverse, get_or-reverse}
use Rattle.std.proofs.lemmas.List.Elements.{All-nil, All-cons}
use Rattle.std.proofs.lemmas.List.Sums.{prefix_len-le-length, prefix_len_passes, prefix_len_stops}
use Rattle.std.proofs.lemmas.List.Folds.{list_any_none}
use Rattle.std.proofs.lemmas.Str.{encodes-chars, encodes-append, scalars-chars, length-encode, IsUtf8-append, IsUtf8-drop, IsUtf8-nil, IsUtf8-encode, IsCharBoundary-at_seam, IsCharBoundary-after_ascii, IsCharBoundary-end}
use Rattle.lrlex_parser.specs.Text.{Piece, piece, cut_chars, cut, onto_first_piece, skip_leading, drop_trailing, unless_last, trim_start, trim_end, trim_text, trim}
use Rattle.lrlex_base.specs.Classes.{is_white_space, is_blank}
use Rattle.lrlex_parser.specs.Declaration.{first_word}
use Rattle.lrlex_parser.proofs.Cuts.{scalars_behind}
use Rattle.lrlex_parser.proofs.Lists.{not_true}
use Rattle.lrlex_parser.proofs.Blanks.{blank_low}

-- ---- pieces
-- the piece stands right behind this front of the text, and it and what follows are UTF-8
pub record StandsBehind (text before : List ℕ) (x : Piece) : Type 0 where
  pub after : List ℕ
  pub is : text ≡ before ++ (x.text ++ after)
  pub place : x.at ≡ length before
  pub own : IsUtf8 x.text
  pub rest : IsUtf8 after

-- the piece stands in the text
pub record IsPiece (text : List ℕ) (x : Piece) : Type 0 where
  pub before : List ℕ
  pub stands : StandsBehind text before x

regroup : (a b c d : List ℕ) → a ++ ((b ++ c) ++ d) ≡ (a ++ b) ++ (c ++ d)
regroup a b c d = ap (λ (x : List ℕ). a ++ x) (append_assoc b c d) ∙ sym (append_assoc a b (c ++ d))

-- a boundary of the piece is one of the text
pub inside : (text : List ℕ) (x : Piece) (k o : ℕ) → IsPiece text x → IsCharBoundary x.text k → o ≡ x.at + k → IsCharBoundary text o
inside text x k o p b e =
    let s = p.stands in
    let place = s.place in
    let whole : text ≡ (p.before ++ take k x.text) ++ (drop k x.text ++ s.after) =
    s.is ∙ ap (λ (t : List ℕ). p.before ++ (t ++ s.after)) (sym (take-append-drop k x.text)) ∙ regroup p.before (take k x.text) (drop k x.text) s.after in
    let short = b.0 in
    let sizes : length (p.before ++ take k x.text) ≡ o = length-append p.before (take k x.text) ∙ ap (λ (n : ℕ). length p.before + n) (length-take-le k x.text short) ∙ omega arith in
    subst (IsCharBoundary text) sizes (IsCharBoundary-at_seam text (p.before ++ take k x.text) (drop k x.text ++ s.after) whole (IsUtf8-append (drop k x.text) s.after (IsUtf8-drop x.text k s.own b) s.rest))

pub starts : (text : List ℕ) (x : Piece) → IsPiece text x → IsCharBoundary text x.at
starts text x p =
    let s = p.stands in
    subst (IsCharBoundary text) (sym s.place) (IsCharBoundary-at_seam text p.before (x.text ++ s.after) s.is (IsUtf8-append x.text s.after s.own s.rest))

pub ends : (text : List ℕ) (x : Piece) → IsPiece text x → IsCharBoundary text (x.at + length x.text)
ends text x p = inside text x (length x.text) (x.at + length x.text) p (IsCharBoundary-end x.text) refl

-- a part of a piece
pub part : (text : List ℕ) (x : Piece) (front mid back : List ℕ) (o : ℕ) → IsPiece text x → x.text ≡ front ++ (mid ++ back) → IsUtf8 mid → IsUtf8 back → o ≡ x.at + length front → IsPiece text (piece o mid)
part text x front mid back o p e um ub place =
    let s = p.stands in
    let at = s.place in
    let sizes = length-append p.before front in
    record {
      before = p.before ++ front;
      stands = record {
        after = back ++ s.after;
        is = s.is ∙ ap (λ (t : List ℕ). p.before ++ (t ++ s.after)) e ∙ regroup p.before front (mid ++ back) s.after ∙ ap (λ (t : List ℕ). (p.before ++ front) ++ t) (append_assoc mid back s.after);
        place = omega arith;
        own = um;
        rest = IsUtf8-append back s.after ub s.rest;
      };
    }

-- what of a piece stands behind a boundary
pub suffix : (text : List ℕ) (x : Piece) (k o : ℕ) (t : List ℕ) → IsPiece text x → IsCharBoundary x.text k → o ≡ x.at + k → t ≡ drop k x.text → IsPiece text (piece o t)
suffix text x k o t p b place e =
    let u : IsUtf8 (drop k x.text) = IsUtf8-drop x.text k p.stands.own b in
    let size = length-take-le k x.text b.0 in
    let whole : x.text ≡ take k x.text ++ (t ++ []) = sym (take-append-drop k x.text) ∙ ap (λ (r : List ℕ). take k x.text ++ r) (sym (append-nil t ∙ e)) in
    part text x (take k x.text) t [] o p whole (subst IsUtf8 (sym e) u) IsUtf8-nil (omega arith)

-- a text as a whole
pub whole_text : (text : List ℕ) → IsUtf8 text → IsPiece text (piece 0 text)
whole_text text u = record { before = []; stands = record { after = []; is = sym (append-nil text); place = refl; own = u; rest = IsUtf8-nil } }

-- ---- cutting
abbrev BeginsBehind : List ℕ → List ℕ → List Piece → Type 0
BeginsBehind text before [] = ⊥
BeginsBehind text before (x ∷ xs) = StandsBehind text before x × All (IsPiece text) xs

all_pieces : (text before : List ℕ) (ps : List Piece) → BeginsBehind text before ps → All (IsPiece text) ps
all_pieces text before [] h = absurd h
all_pieces text before (x ∷ xs) h = All-cons (IsPiece text) x xs (record { before = before; stands = h.0 }) h.1

onto : (text before : List ℕ) (o c : ℕ) (ps : List Piece) → IsScalar c → o ≡ length before → BeginsBehind text (before ++ encode_utf8 c) ps → BeginsBehind text before (onto_first_piece o c ps)
onto text before o c [] sc e h = absurd h
onto text before o c (x ∷ xs) sc e h =
    let s = h.0 in (
      record {
        after = s.after;
        is = s.is ∙ append_assoc before (encode_utf8 c) (x.text ++ s.after) ∙ ap (λ (t : List ℕ). before ++ t) (sym (append_assoc (encode_utf8 c) x.text s.after));
        place = e;
        own = IsUtf8-append (encode_utf8 c) x.text (IsUtf8-encode c sc) s.own;
        rest = s.rest;
      },
      h.1,
    )

either_begins : (text before : List ℕ) (b : Bool) (xs ys : List Piece) → BeginsBehind text before xs → BeginsBehind text before ys → BeginsBehind text before (if b then xs else ys)
either_begins text before true xs ys h k = h
either_begins text before false xs ys h k = k

utf8_of : (cs : List ℕ) → all_scalars cs ≡ true → IsUtf8 (encode_utf8_all cs)
utf8_of cs h = (cs, (h, refl))

cut_behind : (p : ℕ → Bool) (text before : List ℕ) (o : ℕ) (cs after : List ℕ) → all_scalars cs ≡ true → IsUtf8 after → o ≡ length before → text ≡ before ++ (encode_utf8_all cs ++ after) → BeginsBehind text before (cut_chars p o cs)
cut_behind p text before o [] after h u e is = (record { after = after; is = is; place = e; own = IsUtf8-nil; rest = u }, All-nil (IsPiece text))
cut_behind p text before o (c ∷ cs) after h u e is =
    let wide = length-encode c in
    let both = length-append before (encode_utf8 c) in
    let next : o + len_utf8 c ≡ length (before ++ encode_utf8 c) = omega arith in
    let sc : IsScalar c = first_so _ _ h in
    let more : all_scalars cs ≡ true = second_so _ _ h in
    let split : text ≡ before ++ (encode_utf8 c ++ (encode_utf8_all cs ++ after)) = is ∙ ap (λ (t : List ℕ). before ++ t) (append_assoc (encode_utf8 c) (encode_utf8_all cs) after) in
    let rest : BeginsBehind text (before ++ encode_utf8 c) (cut_chars p (o + len_utf8 c) cs) =
    cut_behind p text (before ++ encode_utf8 c) (o + len_utf8 c) cs after more u next (split ∙ sym (append_assoc before (encode_utf8 c) (encode_utf8_all cs ++ after))) in
    let behind : IsUtf8 (encode_utf8 c ++ (encode_utf8_all cs ++ after)) = IsUtf8-append (encode_utf8 c) (encode_utf8_all cs ++ after) (IsUtf8-encode c sc) (IsUtf8-append (encode_utf8_all cs) after (utf8_of cs more) u) in
    let empty : StandsBehind text before (piece o []) = record { after = encode_utf8 c ++ (encode_utf8_all cs ++ after); is = split; place = e; own = IsUtf8-nil; rest = behind } in
    either_begins text before (p c) (piece o [] ∷ cut_chars p (o + len_utf8 c) cs) (onto_first_piece o c (cut_chars p (o + len_utf8 c) cs))
    (empty, all_pieces text (before ++ encode_utf8 c) (cut_chars p (o + len_utf8 c) cs) rest) (onto text before o c (cut_chars p (o + len_utf8 c) cs) sc e rest)

pub cut_pieces : (p : ℕ → Bool) (text : List ℕ) (x : Piece) → IsPiece text x → All (IsPiece text) (cut p x)
cut_pieces p text x h =
    let s = h.stands in
    all_pieces text h.before (cut_chars p x.at (chars x.text))
    (cut_behind p text h.before x.at (chars x.text) s.after (scalars-chars x.text s.own) s.rest s.place (s.is ∙ ap (λ (t : List ℕ). h.before ++ (t ++ s.after)) (sym (encodes-chars x.text s.own))))

-- ---- a text in two
record InTwo (text front back : List ℕ) : Type 0 where
  is : text ≡ front ++ back
  own : IsUtf8 front
  rest : IsUtf8 back

and_true : (a b : Bool) → a ≡ true → b ≡ true → (a && b) ≡ true
and_true a b h k = rw (h, k) refl

scalars_front : (cs ds : List ℕ) → all_scalars (cs ++ ds) ≡ true → all_scalars cs ≡ true
scalars_front [] ds h = refl
scalars_front (c ∷ cs) ds h = and_true _ _ (first_so _ _ h) (scalars_front cs ds (second_so _ _ h))

-- by its characters
in_two : (text cs ds : List ℕ) → IsUtf8 text → chars text ≡ cs ++ ds → InTwo text (encode_utf8_all cs) (encode_utf8_all ds)
in_two text cs ds u e =
    let known : all_scalars (cs ++ ds) ≡ true = ap all_scalars (sym e) ∙ scalars-chars text u in
    record {
      is = sym (encodes-chars text u) ∙ ap encode_utf8_all e ∙ encodes-append cs ds;
      own = utf8_of cs (scalars_front cs ds known);
      rest = utf8_of ds (scalars_behind cs ds known);
    }

skips : (p : ℕ → Bool) (cs : List ℕ) → (ws : List ℕ) × (cs ≡ ws ++ skip_leading p cs)
skips p [] = ([], refl)
skips p (c ∷ cs) =
    let more = skips p cs in
    elim (p c) as (λ b. (ws : List ℕ) × (c ∷ cs ≡ ws ++ (if b then skip_leading p cs else c ∷ cs))) [ true ↦ (c ∷ more.0, ap (λ (x : List ℕ). c ∷ x) more.1) | false ↦ ([], refl) ]

drops_one : (p : ℕ → Bool) (c : ℕ) (ds ws : List ℕ) → (vs : List ℕ) × (c ∷ (ds ++ ws) ≡ unless_last p c ds ++ vs)
drops_one p c [] ws = elim (p c) as (λ b. (vs : List ℕ) × (c ∷ ws ≡ (if b then [] else c ∷ []) ++ vs)) [ true ↦ (c ∷ ws, refl) | false ↦ (ws, refl) ]
drops_one p c (d ∷ ds) ws = (ws, refl)

drops : (p : ℕ → Bool) (cs : List ℕ) → (ws : List ℕ) × (cs ≡ drop_trailing p cs ++ ws)
drops p [] = ([], refl)
drops p (c ∷ cs) =
    let more = drops p cs in
    let one = drops_one p c (drop_trailing p cs) more.0 in
    (one.0, ap (λ (x : List ℕ). c ∷ x) more.1 ∙ one.1)

-- ---- white space and words
pub trimmed_end : (text : List ℕ) (x : Piece) → IsPiece text x → IsPiece text (piece x.at (trim_end x.text))
trimmed_end text x p =
    let ws = drops is_white_space (chars x.text) in
    let two = in_two x.text (drop_trailing is_white_space (chars x.text)) ws.0 p.stands.own ws.1 in
    part text x [] (trim_end x.text) (encode_utf8_all ws.0) x.at p two.is two.own two.rest (omega arith)

pub trimmed : (text : List ℕ) (x : Piece) → IsPiece text x → IsPiece text (trim x)
trimmed text x p =
    let ws = skips is_white_space (chars x.text) in
    let two = in_two x.text ws.0 (skip_leading is_white_space (chars x.text)) p.stands.own ws.1 in
    let vs = drops is_white_space (chars (trim_start x.text)) in
    let front = encode_utf8_all ws.0 in
    let rest = in_two (trim_start x.text) (drop_trailing is_white_space (chars (trim_start x.text))) vs.0 two.rest vs.1 in
    let sizes : length x.text ≡ length front + length (trim_start x.text) = ap (length {A = ℕ}) two.is ∙ length-append front (trim_start x.text) in
    part text x front (trim_text x.text) (encode_utf8_all vs.0) (x.at + (length x.text - length (trim_start x.text))) p (two.is ∙ ap (λ (t : List ℕ). front ++ t) rest.is) rest.own rest.rest (omega arith)

pub past_word : (text : List ℕ) (x : Piece) → IsPiece text x → IsPiece text (piece (x.at + length (first_word x.text)) (drop (length (first_word x.text)) x.text))
past_word text x p =
    let n = position_or_len is_white_space (chars x.text) in
    let two = in_two x.text (before_first is_white_space (chars x.text)) (drop n (chars x.text)) p.stands.own (sym (take-append-drop n (chars x.text))) in
    suffix text x (length (first_word x.text)) (x.at + length (first_word x.text)) (drop (length (first_word x.text)) x.text) p (IsCharBoundary-at_seam x.text (first_word x.text) (encode_utf8_all (drop n (chars x.text))) two.is two.rest) refl refl

-- ---- the last element that passes
pub record LastAt (p : ℕ → Bool) (xs : List ℕ) : Type 0 where
  pub n : ℕ
  pub lt : n < length xs
  pub passes : p (get_or xs n 0) ≡ true
  pub front : before_last p xs ≡ take n xs
  pub back : after_last p xs ≡ drop (n + 1) xs

not_false : (b : Bool) → not b ≡ false → b ≡ true
not_false true h = refl
not_false false h = cc

none_pass : (p : ℕ → Bool) (xs : List ℕ) → suffix_len (λ x. not (p x)) xs ≡ length xs → list_any p xs ≡ false
none_pass p xs e =
    let same = length-reverse xs in
    list_any_none p xs (λ k d lt.
    let j = length xs - 1 - k in
    let low : j < prefix_len (λ x. not (p x)) (reverse xs) = omega arith in
    let there = prefix_len_passes (λ x. not (p x)) (reverse xs) j d low in
    let short : j < length xs = omega arith in
    let place : length xs - 1 - j ≡ k = omega arith in
    not_true (p (get_or xs k d)) (ap (λ (y : ℕ). not (p y)) (sym (get_or-reverse xs j d short ∙ ap (λ (i : ℕ). get_or xs i d) place)) ∙ there))

pub last_at : (p : ℕ → Bool) (xs : List ℕ) → list_any p xs ≡ true → LastAt p xs
last_at p xs h =
    let q : ℕ → Bool = λ x. not (p x) in
    let m = suffix_len q xs in
    let same = length-reverse xs in
    let le : m ≤ length (reverse xs) = prefix_len-le-length q (reverse xs) in
    let lt : m < length xs = ⊎_elim (λ (l : m < length xs). l) (λ (g : length xs ≤ m). let full : m ≡ length xs = omega arith in absurd (true≢false (sym h ∙ none_pass p xs full))) (cases_lt m (length xs)) in
    let stop : q (get_or (reverse xs) m 0) ≡ false = prefix_len_stops q (reverse xs) 0 (omega arith) in
    let place : length xs - 1 - m ≡ length xs - m - 1 = omega arith in
    record {
      n = length xs - m - 1;
      lt = omega arith;
      passes = not_false (p (get_or xs (length xs - m - 1) 0)) (ap q (sym (get_or-reverse xs m 0 lt ∙ ap (λ (i : ℕ). get_or xs i 0) place)) ∙ stop);
      front = refl;
      back = ap (λ (i : ℕ). drop i xs) (omega arith);
    }

-- ---- blanks in front
past_case : (b : ℕ) (bs : List ℕ) (v : Bool) → is_blank b ≡ v → IsUtf8 (b ∷ bs) → (IsUtf8 bs → IsUtf8 (drop (prefix_len is_blank bs) bs)) → IsUtf8 (drop (prefix_len is_blank (b ∷ bs)) (b ∷ bs))
past_case b bs true e u k =
    let low : b < 128 = blank_low b e in
    let rest : IsUtf8 bs = IsUtf8-drop (b ∷ bs) 1 u (IsCharBoundary-after_ascii (b ∷ bs) 0 u (omega arith) low) in
    let n : suc (prefix_len is_blank bs) ≡ prefix_len is_blank (b ∷ bs) = rw e (omega arith) in
    subst (λ (i : ℕ). IsUtf8 (drop i (b ∷ bs))) n (k rest)
past_case b bs false e u k =
    let n : 0 ≡ prefix_len is_blank (b ∷ bs) = rw e refl in
    subst (λ (i : ℕ). IsUtf8 (drop i (b ∷ bs))) n u

pub past_blanks : (bs : List ℕ) → IsUtf8 bs → IsUtf8 (drop (prefix_len is_blank bs) bs)
past_blanks [] u = u
past_blanks (b ∷ bs) u = past_case b bs (is_blank b) refl u (past_blanks bs)
