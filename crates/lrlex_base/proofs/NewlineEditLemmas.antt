-- The newlines of a text after an edit.
use Rattle.std.proofs.Common.{◌≡◌, ℕ, ◌+◌, ◌-◌, ◌<◌, ◌≤◌, ◌^◌, true, false, cond, List, [], ◌∷◌, ◌++◌, length, map, get_or, set, take, drop, refl, sym, ◌∙◌, ap, ap₂, subst, arith, append_assoc}
use Rattle.std.proofs.Math.Logic.{∥∥₁_map}
use Rattle.std.specs.List.{All, count_by}
use Rattle.std.proofs.lemmas.Grind.{get_or_default_zero}
use Rattle.std.proofs.lemmas.List.Sums.{sum_by-take-le}
use Rattle.std.proofs.lemmas.List.{take_at, drop_at, take-take, take_more, drop_more, get_or_at, set_at, length-map, length-append, get_or-append_right, get_or-map, get_or-drop, length-drop, length-take-le}
use Rattle.std.specs.Iterator.{Drains}
use Rattle.std.specs.Vec.Iter.{into_iter_items, into_iter_len, into_iter_steps}
use Rattle.std.specs.declared.vec.IntoIter.{IntoIter}
use Rattle.std.proofs.lemmas.Iterator.{items_from_drains}
use Rattle.std.proofs.lemmas.Iterator.Adapters.{YieldsList-from_vec}
use Rattle.std.proofs.lemmas.List.{map-id}
use Rattle.lrlex_base.specs.Edits.{edited}
use Rattle.lrlex_base.specs.Places.{AreStartsOfSome, is_newline, newlines_from, starts_after}
use Rattle.lrlex_base.specs.Spans.{span}
use Rattle.lrlex_base.proofs.NewlineLemmas.{starts, starts-append, starts-within, parts, begun, begun_length}

-- feeding another piece
pub fed_more : (fed : ℕ) (S piece : List ℕ) → AreStartsOfSome fed S → AreStartsOfSome (fed + length piece) (S ++ starts_after (newlines_from fed piece))
fed_more fed S piece h =
    ∥∥₁_map h (λ w.
    let text = w.0 in
    let at : 0 + length text ≡ fed = omega (arith, w.1) in
    let long : fed + length piece ≡ length (text ++ piece) = omega (arith, w.1, length-append text piece) in
    let all : S ++ starts fed piece ≡ starts 0 (text ++ piece) = ap (λ l. l ++ starts fed piece) w.2 ∙ ap (λ n. starts 0 text ++ starts n piece) (sym at) ∙ sym (starts-append 0 text piece) in
    (text ++ piece, long, all))

-- the line beginnings of a text that stands elsewhere
shifted : (b c k : ℕ) (a : List ℕ) → map (λ s. s - b + c) (starts (b + k) a) ≡ starts (c + k) a
shifted b c k [] = refl
shifted b c k (x ∷ a) =
    let f : ℕ → ℕ = λ s. s - b + c in
    let from : b + k + 1 ≡ b + (k + 1) = omega arith in
    let to : c + k + 1 ≡ c + (k + 1) = omega arith in
    let N = newlines_from (b + k + 1) a in
    let M = newlines_from (c + k + 1) a in
    let rest : map f (starts_after N) ≡ starts_after M = ap (λ n. map f (starts n a)) from ∙ shifted b c (k + 1) a ∙ ap (λ n. starts n a) (sym to) in
    let here : f (b + k + 1) ≡ c + k + 1 = omega arith in
    elim (is_newline x) as (λ v. map f (starts_after (cond v ((b + k) ∷ N) N)) ≡ starts_after (cond v ((c + k) ∷ M) M)) [
      | true ↦ ap₂ (λ y l. y ∷ l) here rest
      | false ↦ rest
    ]

-- the line beginnings before a place, and those behind it
pub cut_before : (S text : List ℕ) (at n : ℕ) → S ≡ starts_after (newlines_from 0 text) → at ≤ length text → n ≡ count_by is_newline (take at text) → take n S ≡ starts_after (newlines_from 0 (take at text))
cut_before S text at n e h k = ap₂ take k (e ∙ parts text at h) ∙ take_at (starts 0 (take at text)) (starts at (drop at text)) (begun text at) (begun_length text at)

pub cut_behind : (S text : List ℕ) (at n : ℕ) → S ≡ starts_after (newlines_from 0 text) → at ≤ length text → n ≡ count_by is_newline (take at text) → drop n S ≡ starts_after (newlines_from at (drop at text))
cut_behind S text at n e h k = ap₂ drop k (e ∙ parts text at h) ∙ drop_at (starts 0 (take at text)) (starts at (drop at text)) (begun text at) (begun_length text at)

-- no more lines begin before a place than before a later one
pub begun_rises : (text : List ℕ) (a b : ℕ) → a ≤ b → b ≤ length text → count_by is_newline (take a text) ≤ count_by is_newline (take b text)
begun_rises text a b h l =
    let front : take a (take b text) ≡ take a text = take-take a b text h in
    omega (arith, ap (count_by is_newline) front, sum_by-take-le (λ c. cond (is_newline c) 1 0) (take b text) a)

-- what stands behind a place can be moved
pub behind_movable : (S text : List ℕ) (at n to : ℕ) → S ≡ starts_after (newlines_from 0 text) → at ≤ length text → n ≡ count_by is_newline (take at text) → length text - at + to < 2 ^ 64
    → All (λ s. (at ≤ s) × (s - at + to < 2 ^ 64)) (drop n S)
behind_movable S text at n to e h k fits =
    subst (All (λ s. (at ≤ s) × (s - at + to < 2 ^ 64))) (sym (cut_behind S text at n e h k)) (λ j d l.
    let rest = drop at text in
    let w = starts-within at rest j l in
    let same = get_or_default_zero (starts at rest) j d l in
    (omega arith, omega (arith, length-drop at text)))

-- all of them after an edit
pub edited_starts : (S text put : List ℕ) (a b n m : ℕ) → S ≡ starts_after (newlines_from 0 text) → a ≤ b → b ≤ length text → n ≡ count_by is_newline (take a text) → m ≡ count_by is_newline (take b text)
    → (take n S ++ starts_after (newlines_from a put)) ++ map (λ s. s - b + (a + length put)) (drop m S) ≡ starts_after (newlines_from 0 (edited text (span a b) put))
edited_starts S text put a b n m e h l j k =
    let c = a + length put in
    let rest = drop b text in
    let front = take a text in
    let long : 0 + length front ≡ a = omega (arith, length-take-le a text (omega arith)) in
    let at_b : b + 0 ≡ b = omega arith in
    let at_c : c + 0 ≡ c = omega arith in
    let moved : map (λ s. s - b + c) (drop m S) ≡ starts c rest =
    ap (map (λ s. s - b + c)) (cut_behind S text b m e l k ∙ ap (λ i. starts i rest) (sym at_b)) ∙ shifted b c 0 rest ∙ ap (λ i. starts i rest) at_c in
    let whole : starts 0 (front ++ (put ++ rest)) ≡ starts 0 front ++ (starts a put ++ starts c rest) =
    starts-append 0 front (put ++ rest) ∙ ap (λ i. starts 0 front ++ starts i (put ++ rest)) long ∙ ap (λ i. starts 0 front ++ i) (starts-append a put rest) in
    ap (λ i. (take n S ++ starts a put) ++ i) moved ∙ ap (λ i. (i ++ starts a put) ++ starts c rest) (cut_before S text a n e (omega arith) j)
    ∙ append_assoc (starts 0 front) (starts a put) (starts c rest) ∙ sym whole

-- its length
pub edited_length : (text put : List ℕ) (a b fed : ℕ) → fed ≡ length text → a ≤ b → b ≤ length text → fed - (b - a) + length put ≡ length (edited text (span a b) put)
edited_length text put a b fed e h l =
    let front = take a text in
    let rest = drop b text in
    omega (arith, length-append front (put ++ rest), length-append put rest, length-take-le a text (omega arith), length-drop b text)

-- what isn't moved yet is as it was
pub unmoved : (f : ℕ → ℕ) (S V : List ℕ) (first i : ℕ) → first ≤ i → i < length S
    → V ≡ take i (take first S ++ map f (drop first S)) ++ drop i S → get_or V i 0 ≡ get_or S i 0
unmoved f S V first i h l e =
    let T = take first S ++ map f (drop first S) in
    let size : length T ≡ length S = omega (arith, length-append (take first S) (map f (drop first S)), length-map (drop first S) f, length-drop first S, length-take-le first S (omega arith)) in
    let long : length (take i T) ≡ i = length-take-le i T (omega arith) in
    ap (λ l. get_or l i 0) (e ∙ ap (λ l. take i T ++ l) (drop_more S i 0 l)) ∙ get_or_at (take i T) (get_or S i 0) (drop (i + 1) S) 0 i long

pub unmoved_all : (f : ℕ → ℕ) (P : ℕ → Type 0) (S V : List ℕ) (first i : ℕ) → first ≤ i → i < length S
    → V ≡ take i (take first S ++ map f (drop first S)) ++ drop i S → All P (drop first S) → P (get_or V i 0)
unmoved_all f P S V first i h l e all =
    let at : first + (i - first) ≡ i = omega arith in
    let same : get_or (drop first S) (i - first) 0 ≡ get_or V i 0 = get_or-drop first S (i - first) 0 ∙ ap (λ n. get_or S n 0) at ∙ sym (unmoved f S V first i h l e) in
    subst P same (all (i - first) 0 (omega (arith, length-drop first S)))

-- one more of them was moved
pub moved_more : (f : ℕ → ℕ) (S V : List ℕ) (first i : ℕ) → first ≤ i → i < length S
    → V ≡ take i (take first S ++ map f (drop first S)) ++ drop i S
    → set V i (f (get_or V i 0)) ≡ take (i + 1) (take first S ++ map f (drop first S)) ++ drop (i + 1) S
moved_more f S V first i h l e =
    let T = take first S ++ map f (drop first S) in
    let x = get_or S i 0 in
    let rest = drop first S in
    let low : length (take first S) ≡ first = length-take-le first S (omega arith) in
    let size : length T ≡ length S = omega (arith, length-append (take first S) (map f rest), length-map rest f, length-drop first S) in
    let long : length (take i T) ≡ i = length-take-le i T (omega arith) in
    let parts : V ≡ take i T ++ x ∷ drop (i + 1) S = e ∙ ap (λ l. take i T ++ l) (drop_more S i 0 l) in
    let read : get_or V i 0 ≡ x = unmoved f S V first i h l e in
    let at : first + (i - first) ≡ i = omega arith in
    let there : get_or T i 0 ≡ f x =
    get_or-append_right (take first S) (map f rest) first i 0 low h ∙ get_or-map f rest (i - first) 0 0 (omega (arith, length-drop first S))
    ∙ ap f (get_or-drop first S (i - first) 0 ∙ ap (λ n. get_or S n 0) at) in
    ap (λ l. set l i (f (get_or V i 0))) parts ∙ set_at (take i T) _ _ (f (get_or V i 0)) i long
    ∙ ap (λ y. take i T ++ y ∷ drop (i + 1) S) (ap f read ∙ sym there)
    ∙ sym (append_assoc (take i T) (get_or T i 0 ∷ []) (drop (i + 1) S))
    ∙ ap (λ l. l ++ drop (i + 1) S) (sym (take_more T i 0 (omega arith)))

-- what splicing leaves
pub spliced_is : {Z : Type 0} (S V added xs : List ℕ) (a b : ℕ) (s : IntoIter ℕ Z) → into_iter_items s ≡ added → into_iter_len s ≡ length added → Drains (into_iter_steps {X = ℕ} {Z = Z}) s xs
    → V ≡ take a S ++ (xs ++ drop b S) → V ≡ take a S ++ (added ++ drop b S)
spliced_is S V added xs a b s e l d is =
    let same : xs ≡ added = sym (map-id xs) ∙ items_from_drains xs (d.1.0, d.1.1, λ _. (d.0, d.1.2)) (YieldsList-from_vec added e l) in
    is ∙ ap (λ ys. take a S ++ (ys ++ drop b S)) same

pub spliced_front : (S V added : List ℕ) (a b n : ℕ) → a ≤ length S → n ≡ a + length added → V ≡ take a S ++ (added ++ drop b S) → take n V ≡ take a S ++ added
spliced_front S V added a b n h e is =
    let long : length (take a S ++ added) ≡ n = omega (arith, length-append (take a S) added, length-take-le a S h) in
    ap (take n) (is ∙ sym (append_assoc (take a S) added (drop b S))) ∙ take_at (take a S ++ added) (drop b S) n long

pub spliced_rest : (S V added : List ℕ) (a b n : ℕ) → a ≤ length S → n ≡ a + length added → V ≡ take a S ++ (added ++ drop b S) → drop n V ≡ drop b S
spliced_rest S V added a b n h e is =
    let long : length (take a S ++ added) ≡ n = omega (arith, length-append (take a S) added, length-take-le a S h) in
    ap (drop n) (is ∙ sym (append_assoc (take a S) added (drop b S))) ∙ drop_at (take a S ++ added) (drop b S) n long

pub spliced_long : (S V added : List ℕ) (a b n : ℕ) → a ≤ length S → n ≡ a + length added → V ≡ take a S ++ (added ++ drop b S) → n ≤ length V
spliced_long S V added a b n h e is =
    omega (arith, ap length is, length-append (take a S) (added ++ drop b S), length-append added (drop b S), length-take-le a S h)

-- and once what stands behind is moved
pub put_is : (f : ℕ → ℕ) (S V N M rest added : List ℕ) (a b n len : ℕ) → a ≤ length S → n ≡ a + length added → V ≡ take a S ++ (added ++ drop b S)
    → N ≡ V → M ≡ take n N ++ map f (drop n N) → length M ≡ len → take len (M ++ rest) ≡ (take a S ++ added) ++ map f (drop b S)
put_is f S V N M rest added a b n len h e is same made l =
    take_at M rest len l ∙ made ∙ ap (λ xs. take n xs ++ map f (drop n xs)) same
    ∙ ap (λ xs. xs ++ map f (drop n V)) (spliced_front S V added a b n h e is)
    ∙ ap (λ xs. (take a S ++ added) ++ map f xs) (spliced_rest S V added a b n h e is)

-- what halving finds, at a place that is known under another name
pub found_at : (S D text : List ℕ) (at p n : ℕ) → S ≡ starts_after (newlines_from 0 text) → D ≡ S → p ≡ at → at ≤ length text
    → ((text : List ℕ) → p ≤ length text → D ≡ starts_after (newlines_from 0 text) → n ≡ count_by is_newline (take p text)) → n ≡ count_by is_newline (take at text)
found_at S D text at p n e d q h count = count text (omega arith) (d ∙ e) ∙ ap (λ i. count_by is_newline (take i text)) q

-- what is left of a cache's line beginnings after an edit
pub edited_is : (S V A text put : List ℕ) (a b n m p from to : ℕ) → S ≡ starts_after (newlines_from 0 text) → a ≤ b → b ≤ length text → n ≡ count_by is_newline (take a text)
    → m ≡ count_by is_newline (take b text) → A ≡ starts_after (newlines_from p put) → p ≡ a → from ≡ b → to ≡ a + length put
    → V ≡ (take n S ++ A) ++ map (λ s. s - from + to) (drop m S) → V ≡ starts_after (newlines_from 0 (edited text (span a b) put))
edited_is S V A text put a b n m p from to e h l j k made q r t is =
    is ∙ ap (λ xs. (take n S ++ xs) ++ map (λ s. s - from + to) (drop m S)) (made ∙ ap (λ i. starts_after (newlines_from i put)) q)
    ∙ ap₂ (λ i o. (take n S ++ starts_after (newlines_from a put)) ++ map (λ s. s - i + o) (drop m S)) r t
    ∙ edited_starts S text put a b n m e h l j k
