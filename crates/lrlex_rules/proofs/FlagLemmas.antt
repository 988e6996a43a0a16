-- Flags are equal exactly where each of them is, and resolved flags are those that are used.
use Rattle.std.proofs.Common.{◌≡◌, IsTrue, ℕ, Bool, true, false, ◌&&◌, Option, Some, None, refl, sym, ap, ◌∙◌, subst, nat_eq, true≢false, min, arith}
use Rattle.std.specs.Prelude.{unwrap_or}
use Rattle.std.proofs.lemmas.Option.{same_Some}
use Rattle.regex.specs.Patterns.{Config}
use Rattle.std.proofs.Math.Bool.{beq}
use Rattle.std.proofs.lemmas.Bool.{eqb-true, eq-eqb}
use Rattle.std.specs.Option.{option_eq}
use Rattle.lrlex_rules.specs.declared.flags.LexFlags.{LexFlags}
use Rattle.lrlex_rules.specs.Flags.{resolved, capped, config_of}

left : (a b : Bool) → IsTrue (a && b) → IsTrue a
left true b h = refl
left false b h = absurd (true≢false (sym h))

right : (a b : Bool) → IsTrue (a && b) → IsTrue b
right true b h = h
right false b h = absurd (true≢false (sym h))

both : (a b : Bool) → IsTrue a → IsTrue b → IsTrue (a && b)
both true b x y = y
both false b x y = absurd (true≢false (sym x))

bool_same : (a b : Bool) → IsTrue (beq a b) → a ≡ b
bool_same true true h = refl
bool_same true false h = absurd (true≢false (sym h))
bool_same false true h = absurd (true≢false (sym h))
bool_same false false h = refl

bool_self : (a : Bool) → IsTrue (beq a a)
bool_self true = refl
bool_self false = refl

number_same : (a b : ℕ) → IsTrue (nat_eq a b) → a ≡ b
number_same a b h = eqb-true a b h

number_self : (a : ℕ) → IsTrue (nat_eq a a)
number_self a = subst IsTrue (sym (eq-eqb a a refl)) refl

same : {X : Type 0} (E : X → X → Bool) → ((x y : X) → IsTrue (E x y) → x ≡ y) → (o p : Option X) → IsTrue (option_eq E o p) → o ≡ p
same E f None None h = refl
same E f None (Some y) h = absurd (true≢false (sym h))
same E f (Some x) None h = absurd (true≢false (sym h))
same E f (Some x) (Some y) h = ap Some (f x y h)

self : {X : Type 0} (E : X → X → Bool) → ((x : X) → IsTrue (E x x)) → (o : Option X) → IsTrue (option_eq E o o)
self E f None = refl
self E f (Some x) = f x

flag : (o p : Option Bool) → IsTrue (option_eq beq o p) → o ≡ p
flag o p h = same beq bool_same o p h

limit : (o p : Option ℕ) → IsTrue (option_eq nat_eq o p) → o ≡ p
limit o p h = same nat_eq number_same o p h

abbrev are_equal : LexFlags → LexFlags → Bool
are_equal a b = option_eq beq a.dot_matches_new_line b.dot_matches_new_line && (option_eq beq a.multi_line b.multi_line && (option_eq beq a.octal b.octal && (option_eq beq a.posix_escapes b.posix_escapes && (option_eq beq a.allow_wholeline_comments b.allow_wholeline_comments && (option_eq beq a.case_insensitive b.case_insensitive && (option_eq beq a.swap_greed b.swap_greed && (option_eq beq a.ignore_whitespace b.ignore_whitespace && (option_eq beq a.unicode b.unicode && (option_eq nat_eq a.size_limit b.size_limit && (option_eq nat_eq a.dfa_size_limit b.dfa_size_limit && option_eq nat_eq a.nest_limit b.nest_limit))))))))))

pub flags_same : (a b : LexFlags) → IsTrue (are_equal a b) → a ≡ b
flags_same a b h =
    let e0 = flag a.dot_matches_new_line b.dot_matches_new_line (left _ _ h) in
    let h0 = right _ _ h in
    let e1 = flag a.multi_line b.multi_line (left _ _ h0) in
    let h1 = right _ _ h0 in
    let e2 = flag a.octal b.octal (left _ _ h1) in
    let h2 = right _ _ h1 in
    let e3 = flag a.posix_escapes b.posix_escapes (left _ _ h2) in
    let h3 = right _ _ h2 in
    let e4 = flag a.allow_wholeline_comments b.allow_wholeline_comments (left _ _ h3) in
    let h4 = right _ _ h3 in
    let e5 = flag a.case_insensitive b.case_insensitive (left _ _ h4) in
    let h5 = right _ _ h4 in
    let e6 = flag a.swap_greed b.swap_greed (left _ _ h5) in
    let h6 = right _ _ h5 in
    let e7 = flag a.ignore_whitespace b.ignore_whitespace (left _ _ h6) in
    let h7 = right _ _ h6 in
    let e8 = flag a.unicode b.unicode (left _ _ h7) in
    let h8 = right _ _ h7 in
    let e9 = limit a.size_limit b.size_limit (left _ _ h8) in
    let h9 = right _ _ h8 in
    let e10 = limit a.dfa_size_limit b.dfa_size_limit (left _ _ h9) in
    let h10 = right _ _ h9 in
    let e11 = limit a.nest_limit b.nest_limit h10 in
    ap (λ x. let made : LexFlags = record a { dot_matches_new_line = x } in made) e0
    ∙ ap (λ x. let made : LexFlags = record a { dot_matches_new_line = b.dot_matches_new_line; multi_line = x } in made) e1
    ∙ ap (λ x. let made : LexFlags = record a { dot_matches_new_line = b.dot_matches_new_line; multi_line = b.multi_line; octal = x } in made) e2
    ∙ ap (λ x. let made : LexFlags = record a { dot_matches_new_line = b.dot_matches_new_line; multi_line = b.multi_line; octal = b.octal; posix_escapes = x } in made) e3
    ∙ ap (λ x. let made : LexFlags = record a { dot_matches_new_line = b.dot_matches_new_line; multi_line = b.multi_line; octal = b.octal; posix_escapes = b.posix_escapes; allow_wholeline_comments = x } in made) e4
    ∙ ap (λ x. let made : LexFlags = record a { dot_matches_new_line = b.dot_matches_new_line; multi_line = b.multi_line; octal = b.octal; posix_escapes = b.posix_escapes; allow_wholeline_comments = b.allow_wholeline_comments; case_insensitive = x } in made) e5
    ∙ ap (λ x. let made : LexFlags = record a { dot_matches_new_line = b.dot_matches_new_line; multi_line = b.multi_line; octal = b.octal; posix_escapes = b.posix_escapes; allow_wholeline_comments = b.allow_wholeline_comments; case_insensitive = b.case_insensitive; swap_greed = x } in made) e6
    ∙ ap (λ x. let made : LexFlags = record a { dot_matches_new_line = b.dot_matches_new_line; multi_line = b.multi_line; octal = b.octal; posix_escapes = b.posix_escapes; allow_wholeline_comments = b.allow_wholeline_comments; case_insensitive = b.case_insensitive; swap_greed = b.swap_greed; ignore_whitespace = x } in made) e7
    ∙ ap (λ x. let made : LexFlags = record a { dot_matches_new_line = b.dot_matches_new_line; multi_line = b.multi_line; octal = b.octal; posix_escapes = b.posix_escapes; allow_wholeline_comments = b.allow_wholeline_comments; case_insensitive = b.case_insensitive; swap_greed = b.swap_greed; ignore_whitespace = b.ignore_whitespace; unicode = x } in made) e8
    ∙ ap (λ x. let made : LexFlags = record a { dot_matches_new_line = b.dot_matches_new_line; multi_line = b.multi_line; octal = b.octal; posix_escapes = b.posix_escapes; allow_wholeline_comments = b.allow_wholeline_comments; case_insensitive = b.case_insensitive; swap_greed = b.swap_greed; ignore_whitespace = b.ignore_whitespace; unicode = b.unicode; size_limit = x } in made) e9
    ∙ ap (λ x. let made : LexFlags = record a { dot_matches_new_line = b.dot_matches_new_line; multi_line = b.multi_line; octal = b.octal; posix_escapes = b.posix_escapes; allow_wholeline_comments = b.allow_wholeline_comments; case_insensitive = b.case_insensitive; swap_greed = b.swap_greed; ignore_whitespace = b.ignore_whitespace; unicode = b.unicode; size_limit = b.size_limit; dfa_size_limit = x } in made) e10
    ∙ ap (λ x. let made : LexFlags = record a { dot_matches_new_line = b.dot_matches_new_line; multi_line = b.multi_line; octal = b.octal; posix_escapes = b.posix_escapes; allow_wholeline_comments = b.allow_wholeline_comments; case_insensitive = b.case_insensitive; swap_greed = b.swap_greed; ignore_whitespace = b.ignore_whitespace; unicode = b.unicode; size_limit = b.size_limit; dfa_size_limit = b.dfa_size_limit; nest_limit = x } in made) e11

pub flags_self : (a : LexFlags) → IsTrue (are_equal a a)
flags_self a =
    both _ _ (self beq bool_self a.dot_matches_new_line) (
    both _ _ (self beq bool_self a.multi_line) (
    both _ _ (self beq bool_self a.octal) (
    both _ _ (self beq bool_self a.posix_escapes) (
    both _ _ (self beq bool_self a.allow_wholeline_comments) (
    both _ _ (self beq bool_self a.case_insensitive) (
    both _ _ (self beq bool_self a.swap_greed) (
    both _ _ (self beq bool_self a.ignore_whitespace) (
    both _ _ (self beq bool_self a.unicode) (
    both _ _ (self nat_eq number_self a.size_limit) (
    both _ _ (self nat_eq number_self a.dfa_size_limit) (
    self nat_eq number_self a.nest_limit)))))))))))

pub flags_equal : (a b : LexFlags) → a ≡ b → IsTrue (are_equal a b)
flags_equal a b e = subst (λ x. IsTrue (are_equal a x)) e (flags_self a)

-- ---- resolved flags
min_once : (n : ℕ) → min (min n 1_000) 1_000 ≡ min n 1_000
min_once n = omega arith

capped_used : (o : Option ℕ) → min (unwrap_or (capped o) 250) 1_000 ≡ min (unwrap_or o 250) 1_000
capped_used None = refl
capped_used (Some n) = min_once n

pub config_resolved : (f : LexFlags) → config_of (resolved f) ≡ config_of f
config_resolved f = ap (λ (n : ℕ). let made : Config = record (config_of f) { nest_limit = n } in made) (capped_used f.nest_limit)

nesting_is : (o : Option ℕ) (n : ℕ) → capped o ≡ Some n → min (unwrap_or o 250) 1_000 ≡ n
nesting_is None n h = cc
nesting_is (Some m) n h = same_Some _ _ h

pub nesting_used : (f : LexFlags) (n : ℕ) → (resolved f).nest_limit ≡ Some n → (config_of f).nest_limit ≡ n
nesting_used f n h = nesting_is f.nest_limit n h

capped_once : (o : Option ℕ) → capped (capped o) ≡ capped o
capped_once None = refl
capped_once (Some n) = ap Some (min_once n)

pub resolved_once : (f : LexFlags) → resolved (resolved f) ≡ resolved f
resolved_once f = ap (λ (o : Option ℕ). let made : LexFlags = record (resolved f) { nest_limit = o } in made) (capped_once f.nest_limit)
