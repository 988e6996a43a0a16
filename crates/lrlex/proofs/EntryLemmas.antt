-- What a change of the last entry does to the plain stack.
use Rattle.std.proofs.Math.Seq.{take-append_seam}
use Rattle.lrlex_rules.specs.Tiling.{top, or_initial}
use Rattle.std.proofs.lemmas.Bool.{cond-true, cond-false, eqb-true, ne_eqb}
use Rattle.std.proofs.lemmas.Option.{same_Some, none-some}
use Rattle.std.proofs.lemmas.List.{get_or_at}
use Rattle.std.proofs.lemmas.List.Elements.{All-cons, All-pop, All-push, All-nil, All-head, All-tail}
use Rattle.std.proofs.Common.{◌≢◌, Bool, true, cond, eq-eqb, subst, Some, slice_get, slice_index, ◌-◌, take, false, true≢false, ◌==◌, ◌≡◌, ℕ, zero, suc, ◌+◌, ◌<◌, List, [], ◌∷◌, ◌++◌, length, replicate, refl, sym, ap, ◌∙◌, arith, append_assoc, append-nil, length-append}
use Rattle.std.proofs.lemmas.List.{length-replicate}
use Rattle.lrlex_boundaries.specs.Entries.{plain, Differ, AreEntries, begins_with_state, entry_count}

pub plain-append : (xs ys : List (ℕ × ℕ)) → plain (xs ++ ys) ≡ plain xs ++ plain ys
plain-append [] ys = refl
plain-append (r ∷ xs) ys = ap (λ zs. replicate r.0 r.1 ++ zs) (plain-append xs ys) ∙ sym (append_assoc (replicate r.0 r.1) (plain xs) (plain ys))

pub plain-last : (xs : List (ℕ × ℕ)) (n q : ℕ) → plain (xs ++ (n, q) ∷ []) ≡ plain xs ++ replicate n q
plain-last xs n q = plain-append xs ((n, q) ∷ []) ∙ ap (λ zs. plain xs ++ zs) (append-nil (replicate n q))

pub replicate-last : (n q : ℕ) → replicate (suc n) q ≡ replicate n q ++ q ∷ []
replicate-last zero q = refl
replicate-last (suc n) q = ap (λ zs. q ∷ zs) (replicate-last n q)

-- one more of the state on top
pub plain-more : (xs : List (ℕ × ℕ)) (n m q : ℕ) → m ≡ n + 1 → plain (xs ++ (m, q) ∷ []) ≡ plain (xs ++ (n, q) ∷ []) ++ q ∷ []
plain-more xs n m q e =
    let next : m ≡ suc n = omega arith in
    plain-last xs m q ∙ ap (λ k. plain xs ++ replicate k q) next ∙ ap (λ zs. plain xs ++ zs) (replicate-last n q)
    ∙ sym (append_assoc (plain xs) (replicate n q) (q ∷ [])) ∙ ap (λ zs. zs ++ q ∷ []) (sym (plain-last xs n q))

-- a run of one state
pub plain-one : (xs : List (ℕ × ℕ)) (q : ℕ) → plain (xs ++ (1, q) ∷ []) ≡ plain xs ++ q ∷ []
plain-one xs q = plain-last xs 1 q

pub length-plain-last : (xs : List (ℕ × ℕ)) (n q : ℕ) → length (plain (xs ++ (n, q) ∷ [])) ≡ length (plain xs) + n
length-plain-last xs n q = ap length (plain-last xs n q) ∙ length-append (plain xs) (replicate n q) ∙ ap (λ k. length (plain xs) + k) (length-replicate n q)

front_of : (a : List ℕ) (s : ℕ) → take (length (a ++ s ∷ []) - 1) (a ++ s ∷ []) ≡ a
front_of a s =
    let n : length (a ++ s ∷ []) - 1 ≡ length a = omega (arith, length-append a (s ∷ [])) in
    ap (λ i. take i (a ++ s ∷ [])) n ∙ take-append_seam a (s ∷ [])

kept : (a : List ℕ) → 0 < length a → a ≡ or_initial a
kept [] h = absurd (omega arith)
kept (q ∷ qs) h = refl

-- a stack without its top, where that leaves something
pub popped : (old a : List ℕ) (s : ℕ) → old ≡ a ++ s ∷ [] → 0 < length a → a ≡ or_initial (take (length old - 1) old)
popped old a s e some = kept a some ∙ ap or_initial (sym (front_of a s)) ∙ ap (λ xs. or_initial (take (length xs - 1) xs)) (sym e)

-- where there is a run, there is a state
pub some_plain : (xs : List (ℕ × ℕ)) (n q : ℕ) → 0 < n → 0 < length (plain (xs ++ (n, q) ∷ []))
some_plain xs n q h = omega (arith, length-plain-last xs n q)

pub some_of_entries : (rs : List (ℕ × ℕ)) → AreEntries rs → 0 < length rs → 0 < length (plain rs)
some_of_entries [] h some = absurd (omega arith)
some_of_entries (r ∷ rs) h some =
    let first : 0 < r.0 = h.some 0 r (omega arith) in
    omega (arith, length-append (replicate r.0 r.1) (plain rs), length-replicate r.0 r.1)

pub not_none : (n : ℕ) → false ≡ (n == 0) → 0 < n
not_none zero e = absurd (true≢false (sym e))
not_none (suc n) e = omega arith

-- ---- neighbours differ

differ-front : (xs : List (ℕ × ℕ)) (r : ℕ × ℕ) → Differ (xs ++ r ∷ []) → Differ xs
differ-front [] r d = tt
differ-front (x ∷ []) r d = tt
differ-front (x ∷ y ∷ xs) r d = (d.0, differ-front (y ∷ xs) r d.1)

differ-raised : (xs : List (ℕ × ℕ)) (n m q : ℕ) → Differ (xs ++ (n, q) ∷ []) → Differ (xs ++ (m, q) ∷ [])
differ-raised [] n m q d = tt
differ-raised (x ∷ []) n m q d = d
differ-raised (x ∷ y ∷ xs) n m q d = (d.0, differ-raised (y ∷ xs) n m q d.1)

differ-more : (xs : List (ℕ × ℕ)) (r s : ℕ × ℕ) → Differ (xs ++ r ∷ []) → r.1 ≢ s.1 → Differ ((xs ++ r ∷ []) ++ s ∷ [])
differ-more [] r s d h = (h, tt)
differ-more (x ∷ []) r s d h = (d.0, (h, tt))
differ-more (x ∷ y ∷ xs) r s d h = (d.0, differ-more (y ∷ xs) r s d.1 h)

pub entries-front : (xs : List (ℕ × ℕ)) (r : ℕ × ℕ) → AreEntries (xs ++ r ∷ []) → AreEntries xs
entries-front xs r h = record {
  some = (All-pop (λ x. 0 < x.0) (xs ++ r ∷ []) xs (Some r) refl h.some).0;
  differ = differ-front xs r h.differ;
}

pub entries-last : (xs : List (ℕ × ℕ)) (r : ℕ × ℕ) → AreEntries (xs ++ r ∷ []) → 0 < r.0
entries-last xs r h = (All-pop (λ x. 0 < x.0) (xs ++ r ∷ []) xs (Some r) refl h.some).1

pub entries-raised : (xs : List (ℕ × ℕ)) (n m q : ℕ) → AreEntries (xs ++ (n, q) ∷ []) → 0 < m → AreEntries (xs ++ (m, q) ∷ [])
entries-raised xs n m q h some = record {
  some = All-push (λ x. 0 < x.0) xs (m, q) (entries-front xs (n, q) h).some some;
  differ = differ-raised xs n m q h.differ;
}

pub entries-more : (xs : List (ℕ × ℕ)) (r : ℕ × ℕ) (q : ℕ) → AreEntries (xs ++ r ∷ []) → r.1 ≢ q → AreEntries ((xs ++ r ∷ []) ++ (1, q) ∷ [])
entries-more xs r q h other = record {
  some = All-push (λ x. 0 < x.0) (xs ++ r ∷ []) (1, q) h.some (omega arith);
  differ = differ-more xs r (1, q) h.differ other;
}

pub entries-one : (q : ℕ) → AreEntries ((1, q) ∷ [])
entries-one q = record { some = All-push (λ x. 0 < x.0) [] (1, q) (All-nil (λ x. 0 < x.0)) (omega arith); differ = tt }

pub top-last : (xs : List ℕ) (q : ℕ) → top (xs ++ q ∷ []) ≡ q
top-last xs q =
    let n : length xs ≡ length (xs ++ q ∷ []) - 1 = omega (arith, length-append xs (q ∷ [])) in
    ap (slice_index (xs ++ q ∷ [])) (sym n) ∙ get_or_at xs q [] 0 (length xs) refl

-- the top of a stack with its last run
pub top_plain : (xs : List (ℕ × ℕ)) (n q : ℕ) → 0 < n → top (plain (xs ++ (n, q) ∷ [])) ≡ q
top_plain xs zero q h = absurd (omega arith)
top_plain xs (suc n) q h =
    ap top (plain-last xs (suc n) q ∙ ap (λ zs. plain xs ++ zs) (replicate-last n q) ∙ sym (append_assoc (plain xs) (replicate n q) (q ∷ [])))
    ∙ top-last (plain xs ++ replicate n q) q

-- ---- equal stacks have equal entries

onto : ℕ → List (ℕ × ℕ) → List (ℕ × ℕ)
onto q [] = (1, q) ∷ []
onto q (r ∷ rs) = cond (r.1 == q) ((suc r.0, r.1) ∷ rs) ((1, q) ∷ r ∷ rs)

pub entries_of : List ℕ → List (ℕ × ℕ)
entries_of [] = []
entries_of (q ∷ qs) = onto q (entries_of qs)

onto_other : (q : ℕ) (n : ℕ) (rs : List (ℕ × ℕ)) → Differ ((n, q) ∷ rs) → onto q rs ≡ (1, q) ∷ rs
unfolding onto
onto_other q n [] d = refl
onto_other q n (r ∷ rs) d = cond-false _ ((suc r.0, r.1) ∷ rs) ((1, q) ∷ r ∷ rs) (ne_eqb r.1 q (λ e. d.0 (sym e)))

differ-any : (n m q : ℕ) (rs : List (ℕ × ℕ)) → Differ ((n, q) ∷ rs) → Differ ((m, q) ∷ rs)
differ-any n m q [] d = tt
differ-any n m q (r ∷ rs) d = d

entries_of-run : (n q : ℕ) (s : List ℕ) (rs : List (ℕ × ℕ)) → Differ ((n, q) ∷ rs) → entries_of s ≡ rs → entries_of (replicate (suc n) q ++ s) ≡ (suc n, q) ∷ rs
unfolding onto entries_of
entries_of-run zero q s rs d e = ap (onto q) e ∙ onto_other q 0 rs d
entries_of-run (suc n) q s rs d e =
    ap (onto q) (entries_of-run n q s rs (differ-any (suc n) n q rs d) e) ∙ cond-true _ ((suc (suc n), q) ∷ rs) ((1, q) ∷ (suc n, q) ∷ rs) (eq-eqb q q refl)

differ-rest : (r : ℕ × ℕ) (rs : List (ℕ × ℕ)) → Differ (r ∷ rs) → Differ rs
differ-rest r [] d = tt
differ-rest r (s ∷ rs) d = d.1

entries-rest : (r : ℕ × ℕ) (rs : List (ℕ × ℕ)) → AreEntries (r ∷ rs) → AreEntries rs
entries-rest r rs h = record { some = All-tail (λ x. 0 < x.0) r rs h.some; differ = differ-rest r rs h.differ }

with_count : (n : ℕ) → 0 < n → (q : ℕ) (rs : List (ℕ × ℕ)) → Differ ((n - 1, q) ∷ rs) → entries_of (plain rs) ≡ rs → entries_of (replicate n q ++ plain rs) ≡ (n, q) ∷ rs
with_count zero h q rs d e = absurd (omega arith)
with_count (suc n) h q rs d e = entries_of-run n q (plain rs) rs (differ-any (suc n - 1) n q rs d) e

entries_of-plain : (rs : List (ℕ × ℕ)) → AreEntries rs → entries_of (plain rs) ≡ rs
unfolding entries_of
entries_of-plain [] h = refl
entries_of-plain (r ∷ rs) h = with_count r.0 (All-head (λ x. 0 < x.0) r rs h.some) r.1 rs (differ-any r.0 (r.0 - 1) r.1 rs h.differ) (entries_of-plain rs (entries-rest r rs h))

pub same_entries : (xs ys : List (ℕ × ℕ)) → AreEntries xs → AreEntries ys → plain xs ≡ plain ys → xs ≡ ys
same_entries xs ys h k e = sym (entries_of-plain xs h) ∙ ap entries_of e ∙ entries_of-plain ys k

-- each stack has entries

plain-cond : (b : Bool) (q : ℕ) (r : ℕ × ℕ) (rs : List (ℕ × ℕ)) → (b ≡ true → r.1 ≡ q) → plain (cond b ((suc r.0, r.1) ∷ rs) ((1, q) ∷ r ∷ rs)) ≡ q ∷ plain (r ∷ rs)
plain-cond true q r rs h = ap (λ x. x ∷ plain (r ∷ rs)) (h refl)
plain-cond false q r rs h = refl

plain-onto : (q : ℕ) (rs : List (ℕ × ℕ)) → plain (onto q rs) ≡ q ∷ plain rs
unfolding onto
plain-onto q [] = refl
plain-onto q (r ∷ rs) = plain-cond (r.1 == q) q r rs (λ e. eqb-true r.1 q e)

pub plain-entries_of : (s : List ℕ) → plain (entries_of s) ≡ s
unfolding entries_of
plain-entries_of [] = refl
plain-entries_of (q ∷ qs) = plain-onto q (entries_of qs) ∙ ap (λ xs. q ∷ xs) (plain-entries_of qs)

entries-cond : (b : Bool) (q : ℕ) (r : ℕ × ℕ) (rs : List (ℕ × ℕ)) → (b ≡ false → q ≢ r.1) → AreEntries (r ∷ rs) → AreEntries (cond b ((suc r.0, r.1) ∷ rs) ((1, q) ∷ r ∷ rs))
entries-cond true q r rs h rest = record {
  some = All-cons (λ x. 0 < x.0) (suc r.0, r.1) rs (omega arith) (All-tail (λ x. 0 < x.0) r rs rest.some);
  differ = differ-any r.0 (suc r.0) r.1 rs rest.differ;
}
entries-cond false q r rs h rest = record { some = All-cons (λ x. 0 < x.0) (1, q) (r ∷ rs) (omega arith) rest.some; differ = (h refl, rest.differ) }

entries-onto : (q : ℕ) (rs : List (ℕ × ℕ)) → AreEntries rs → AreEntries (onto q rs)
unfolding onto
entries-onto q [] h = entries-one q
entries-onto q (r ∷ rs) h = entries-cond (r.1 == q) q r rs (λ e is. true≢false (sym (eq-eqb r.1 q (sym is)) ∙ e)) h

pub are-entries_of : (s : List ℕ) → AreEntries (entries_of s)
unfolding entries_of
are-entries_of [] = record { some = All-nil (λ x. 0 < x.0); differ = tt }
are-entries_of (q ∷ qs) = entries-onto q (entries_of qs) (are-entries_of qs)

-- ---- a list of entries is as long as its stack has entries

begins_run : (n : ℕ) → 0 < n → (r q : ℕ) (s : List ℕ) → r ≢ q → begins_with_state (replicate n r ++ s) q ≡ false
begins_run zero h r q s other = absurd (omega arith)
begins_run (suc n) h r q s other = ne_eqb r q other

begins_other : (n q : ℕ) (rs : List (ℕ × ℕ)) → AreEntries ((n, q) ∷ rs) → begins_with_state (plain rs) q ≡ false
begins_other n q [] h = refl
begins_other n q (r ∷ rs) h = begins_run r.0 (All-head (λ x. 0 < x.0) r rs (All-tail (λ x. 0 < x.0) (n, q) (r ∷ rs) h.some)) r.1 q (plain rs) (λ e. h.differ.0 (sym e))

entry_count-run : (n q : ℕ) (s : List ℕ) → begins_with_state s q ≡ false → entry_count (replicate (suc n) q ++ s) ≡ entry_count s + 1
entry_count-run zero q s e = cond-false _ (entry_count s) (entry_count s + 1) e
entry_count-run (suc n) q s e = cond-true _ (entry_count (replicate (suc n) q ++ s)) (entry_count (replicate (suc n) q ++ s) + 1) (eq-eqb q q refl) ∙ entry_count-run n q s e

entry_count-some : (n : ℕ) → 0 < n → (q : ℕ) (s : List ℕ) → begins_with_state s q ≡ false → entry_count (replicate n q ++ s) ≡ entry_count s + 1
entry_count-some zero h q s e = absurd (omega arith)
entry_count-some (suc n) h q s e = entry_count-run n q s e

pub entry_count-plain : (rs : List (ℕ × ℕ)) → AreEntries rs → entry_count (plain rs) ≡ length rs
entry_count-plain [] h = refl
entry_count-plain (r ∷ rs) h =
    omega (arith, entry_count-some r.0 (All-head (λ x. 0 < x.0) r rs h.some) r.1 (plain rs) (begins_other r.0 r.1 rs h), entry_count-plain rs (entries-rest r rs h))

-- ---- the last run

pub record HasLast (xs : List (ℕ × ℕ)) (x : ℕ × ℕ) : Type 0 where
  pub front : List (ℕ × ℕ)
  pub is : xs ≡ front ++ x ∷ []

pub has_last : (xs : List (ℕ × ℕ)) (i : ℕ) (x : ℕ × ℕ) → length xs ≡ suc i → slice_get xs i ≡ Some x → HasLast xs x
has_last [] i x n at = absurd (omega arith)
has_last (y ∷ []) zero x n at = record { front = []; is = ap (λ z. z ∷ []) (same_Some _ _ at) }
has_last (y ∷ []) (suc i) x n at = absurd (omega arith)
has_last (y ∷ z ∷ xs) zero x n at = absurd (omega arith)
has_last (y ∷ z ∷ xs) (suc i) x n at =
    let h = has_last (z ∷ xs) i x (omega arith) at in
    record { front = y ∷ h.front; is = ap (λ zs. y ∷ zs) h.is }

pub top_of_last : (rs : List (ℕ × ℕ)) (r : ℕ × ℕ) → AreEntries rs → Some r ≡ slice_get rs (length rs - 1) → r.1 ≡ top (plain rs)
top_of_last [] r h at = absurd (none-some _ (sym at))
top_of_last (s ∷ rs) r h at =
    let n : length (s ∷ rs) ≡ suc (length (s ∷ rs) - 1) = omega arith in
    let l = has_last (s ∷ rs) (length (s ∷ rs) - 1) r n (sym at) in
    let some = entries-last l.front r (subst AreEntries l.is h) in
    sym (ap (λ xs. top (plain xs)) l.is ∙ top_plain l.front r.0 r.1 some)
