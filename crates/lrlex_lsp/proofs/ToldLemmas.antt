-- Tokens that are told one after the other.
use Rattle.std.proofs.Common.{◌≡◌, ℕ, suc, ◌+◌, ◌-◌, ◌<◌, ◌≤◌, true, false, List, [], ◌∷◌, ◌++◌, length, drop, take, get_or, refl, sym, ◌∙◌, ap, subst, arith, append_assoc, drop-cons, Option}
use Rattle.std.specs.List.{slice_split, All}
use Rattle.std.proofs.lemmas.List.{append-nil, take-append-drop, drop-drop, drop-append-le, length-take-le, length-drop, get_or-take, get_or-drop}
use Rattle.std.proofs.Math.Seq.{drop-append_seam}
use Rattle.std.proofs.lemmas.List.Elements.{All-from_get_or}
use Rattle.std.proofs.lemmas.List.Splits.{slice_split_at, slice_split_none}
use Rattle.lrlex_lsp.specs.Rows.{IsRowAt, GoesTo, IsPartOfLine}
use Rattle.lrlex_lsp.specs.Tokens.{ends_line, part_token, part_tokens, piece_tokens, Token, AreTold, numbers_of, last_place, told_from, short}
use Rattle.lrlex_lsp.specs.declared.tokens.Row.{Row}

numbers-append : (last : ℕ × ℕ) (xs ys : List Token) → numbers_of last (xs ++ ys) ≡ numbers_of last xs ++ numbers_of (last_place last xs) ys
numbers-append last [] ys = refl
numbers-append last (t ∷ xs) ys =
    let told = told_from last t.place in
    ap (λ ns. short told.0 ∷ short told.1 ∷ short t.columns ∷ t.kind ∷ 0 ∷ ns) (numbers-append t.place xs ys)

place-append : (last : ℕ × ℕ) (xs ys : List Token) → last_place last (xs ++ ys) ≡ last_place (last_place last xs) ys
place-append last [] ys = refl
place-append last (t ∷ xs) ys = place-append t.place xs ys

pub told_none : (last : ℕ × ℕ) (ns : List ℕ) → AreTold [] last last ns ns
told_none last ns = record { numbers = sym (append-nil ns); place = refl }

pub told_on : (xs ys : List Token) (a b c : ℕ × ℕ) (ns ms os : List ℕ) → AreTold xs a b ns ms → AreTold ys b c ms os → AreTold (xs ++ ys) a c ns os
told_on xs ys a b c ns ms os one two = record {
  numbers =
      two.numbers ∙ ap (λ l. l ++ numbers_of b ys) one.numbers ∙ ap (λ p. (ns ++ numbers_of a xs) ++ numbers_of p ys) one.place
      ∙ append_assoc ns (numbers_of a xs) (numbers_of (last_place a xs) ys) ∙ ap (λ l. ns ++ l) (sym (numbers-append a xs ys));
  place = two.place ∙ ap (λ p. last_place p ys) one.place ∙ sym (place-append a xs ys);
}

pub stays : (text : List ℕ) (at : ℕ) (row : Row) → IsRowAt text at row → GoesTo text at [] row row
stays text at row here = record { encoding = refl; told = told_none row.last row.tokens.numbers.items; place = here }

pub goes_on : (text : List ℕ) (to end : ℕ) (xs ys : List Token) (a b c : Row) → GoesTo text to xs a b → GoesTo text end ys b c → GoesTo text end (xs ++ ys) a c
goes_on text to end xs ys a b c one two = record {
  encoding = two.encoding ∙ one.encoding;
  told = told_on xs ys a.last b.last c.last a.tokens.numbers.items b.tokens.numbers.items c.tokens.numbers.items one.told two.told;
  place = two.place;
}

pub goes_past : (text : List ℕ) (to end : ℕ) (xs : List Token) (a b c : Row) → GoesTo text to xs a b → GoesTo text end [] b c → GoesTo text end xs a c
goes_past text to end xs a b c one two = subst (λ ts. GoesTo text end ts a c) (append-nil xs) (goes_on text to end xs [] a b c one two)

-- the same tokens, said at an equal encoding
same_token : (text : List ℕ) (kind : Option ℕ) (at to : ℕ) (part : List ℕ) (old a b : Row) → a.encoding ≡ old.encoding → GoesTo text to (part_token a.encoding text kind at part) a b
    → GoesTo text to (part_token old.encoding text kind at part) a b
same_token text kind at to part old a b e g = subst (λ c. GoesTo text to (part_token c text kind at part) a b) e g

-- ---- a walk over a piece

-- up to this byte of the piece tokens are told, and those of the rest are left
pub record IsWalked (text : List ℕ) (kind : Option ℕ) (start begin : ℕ) (piece : List ℕ) (old new : Row) : Type 0 where
  pub done : List Token
  pub goes : GoesTo text (start + begin) done old new
  pub whole : done ++ part_tokens old.encoding text kind (start + begin) (slice_split ends_line (drop begin piece)) ≡ piece_tokens old.encoding text kind start piece

pub walk_starts : (text : List ℕ) (kind : Option ℕ) (start : ℕ) (piece : List ℕ) (row : Row) → IsRowAt text start row → IsWalked text kind start 0 piece row row
walk_starts text kind start piece row here =
    let n : start ≡ start + 0 = omega arith in
    record {
      done = [];
      goes = stays text (start + 0) row (subst (λ k. IsRowAt text k row) n here);
      whole = ap (λ k. part_tokens row.encoding text kind k (slice_split ends_line piece)) (sym n);
    }

all_of : (part : List ℕ) → IsPartOfLine part → All (λ b. ends_line b ≡ false) part
all_of part h = All-from_get_or (λ b. ends_line b ≡ false) part 0 h

pub walk_on : (text : List ℕ) (kind : Option ℕ) (start begin next b : ℕ) (piece part : List ℕ) (old row mid new : Row) → IsWalked text kind start begin piece old row
    → GoesTo text (start + begin + length part) (part_token row.encoding text kind (start + begin) part) row mid → GoesTo text (start + begin + length part + 1) [] mid new
    → drop begin piece ≡ part ++ (b ∷ drop next piece) → ends_line b ≡ true → IsPartOfLine part → next ≡ begin + length part + 1 → IsWalked text kind start next piece old new
walk_on text kind start begin next b piece part old row mid new known one two e ends none is =
    let n : start + begin + length part + 1 ≡ start + next = omega (arith, is) in
    let enc = old.encoding in
    let here = part_token enc text kind (start + begin) part in
    let rest = slice_split ends_line (drop next piece) in
    let split : slice_split ends_line (drop begin piece) ≡ part ∷ rest = ap (slice_split ends_line) e ∙ slice_split_at ends_line part b (drop next piece) (all_of part none) ends in
    record {
      done = known.done ++ here;
      goes = subst (λ k. GoesTo text k (known.done ++ here) old new) n
          (goes_past text (start + begin + length part) (start + begin + length part + 1) (known.done ++ here) old mid new
          (goes_on text (start + begin) (start + begin + length part) known.done here old row mid known.goes (same_token text kind (start + begin) (start + begin + length part) part old row mid known.goes.encoding one)) two);
      whole =
          append_assoc known.done here (part_tokens enc text kind (start + next) rest)
          ∙ ap (λ k. known.done ++ (here ++ part_tokens enc text kind k rest)) (sym n)
          ∙ ap (λ ps. known.done ++ part_tokens enc text kind (start + begin) ps) (sym split) ∙ known.whole;
    }

pub walk_ends : (text : List ℕ) (kind : Option ℕ) (start begin : ℕ) (piece part : List ℕ) (old row new : Row) → IsWalked text kind start begin piece old row
    → GoesTo text (start + begin + length part) (part_token row.encoding text kind (start + begin) part) row new
    → drop begin piece ≡ part → IsPartOfLine part → start + begin + length part ≡ start + length piece → GoesTo text (start + length piece) (piece_tokens old.encoding text kind start piece) old new
walk_ends text kind start begin piece part old row new known one e none is =
    let enc = old.encoding in
    let here = part_token enc text kind (start + begin) part in
    let split : slice_split ends_line (drop begin piece) ≡ part ∷ [] = ap (slice_split ends_line) e ∙ slice_split_none ends_line part (all_of part none) in
    let all : known.done ++ here ≡ piece_tokens enc text kind start piece =
    ap (λ ts. known.done ++ ts) (sym (append-nil here)) ∙ ap (λ ps. known.done ++ part_tokens enc text kind (start + begin) ps) (sym split) ∙ known.whole in
    subst (λ k. GoesTo text k (piece_tokens enc text kind start piece) old new) is
    (subst (λ ts. GoesTo text (start + begin + length part) ts old new) all
    (goes_on text (start + begin) (start + begin + length part) known.done here old row new known.goes (same_token text kind (start + begin) (start + begin + length part) part old row new known.goes.encoding one)))

-- ---- the parts of a piece in its text

-- a part of the piece, and a byte behind it
pub record IsPartAt (text : List ℕ) (start begin at : ℕ) (piece rest part : List ℕ) : Type 0 where
  pub long : length part ≡ at - begin
  pub in_piece : drop begin piece ≡ part ++ (get_or piece at 0 ∷ drop (at + 1) piece)
  pub in_text : drop (start + begin) text ≡ part ++ ((get_or piece at 0 ∷ drop (at + 1) piece) ++ rest)
  pub behind : drop (start + begin + length part) text ≡ get_or piece at 0 ∷ (drop (at + 1) piece ++ rest)

pub part_at : (text : List ℕ) (start begin at : ℕ) (piece rest : List ℕ) → begin ≤ at → at < length piece → drop start text ≡ piece ++ rest
    → IsPartAt text start begin at piece rest (take (at - begin) (drop begin piece))
part_at text start begin at piece rest order within e =
    let part = take (at - begin) (drop begin piece) in
    let n : begin + (at - begin) ≡ at = omega (arith, order) in
    let cons : drop at piece ≡ get_or piece at 0 ∷ drop (at + 1) piece = drop-cons piece at 0 within ∙ (let m : suc at ≡ at + 1 = omega arith in ap (λ k. get_or piece at 0 ∷ drop k piece) m) in
    let in_piece : drop begin piece ≡ part ++ (get_or piece at 0 ∷ drop (at + 1) piece) =
    sym (take-append-drop (at - begin) (drop begin piece)) ∙ ap (λ xs. part ++ xs) (drop-drop (at - begin) begin piece ∙ ap (λ k. drop k piece) n ∙ cons) in
    let in_text : drop (start + begin) text ≡ part ++ ((get_or piece at 0 ∷ drop (at + 1) piece) ++ rest) =
    sym (drop-drop begin start text) ∙ ap (drop begin) e ∙ drop-append-le begin piece rest (omega (arith, order, within))
    ∙ ap (λ xs. xs ++ rest) in_piece ∙ append_assoc part (get_or piece at 0 ∷ drop (at + 1) piece) rest in
    record {
      long = length-take-le (at - begin) (drop begin piece) (omega (arith, length-drop begin piece, within));
      in_piece = in_piece;
      in_text = in_text;
      behind = sym (drop-drop (length part) (start + begin) text) ∙ ap (drop (length part)) in_text ∙ drop-append_seam part ((get_or piece at 0 ∷ drop (at + 1) piece) ++ rest);
    }

pub part_of_line : (begin at : ℕ) (piece : List ℕ) → begin ≤ at → at ≤ length piece → ((i : ℕ) → begin ≤ i → i < at → ends_line (get_or piece i 0) ≡ false)
    → IsPartOfLine (take (at - begin) (drop begin piece))
part_of_line begin at piece order within none i l =
    let long : length (take (at - begin) (drop begin piece)) ≡ at - begin = length-take-le (at - begin) (drop begin piece) (omega (arith, length-drop begin piece, within)) in
    ap ends_line (get_or-take (at - begin) (drop begin piece) i 0 (omega (arith, l, long)) ∙ get_or-drop begin piece i 0) ∙ none (begin + i) (omega arith) (omega (arith, l, long, order))

pub last_part : (begin : ℕ) (piece : List ℕ) → ((i : ℕ) → begin ≤ i → i < length piece → ends_line (get_or piece i 0) ≡ false) → IsPartOfLine (drop begin piece)
last_part begin piece none i l = ap ends_line (get_or-drop begin piece i 0) ∙ none (begin + i) (omega arith) (omega (arith, l, length-drop begin piece))
