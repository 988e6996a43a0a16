-- What is read of the value of an option of one number.
use Rattle.std.proofs.Common.{◌≡◌, ◌<◌, ◌^◌, refl, sym, subst, ℕ, Option, Some, None, Result, Ok, Err, IfOk, IfErr}
use Rattle.std.specs.Result.{IsErrAnd, MatchResult}
use Rattle.std.specs.Str.Parse.{ParsesUnsigned}
use Rattle.clap.specs.Words.{Text, TriesOne, one_text, rows_of}
use Rattle.clap.specs.declared.parser.matches.Found.{Found}
use Rattle.clap.proofs.WalkLemmas.{one_text-rows}
use Rattle.lrlex_cli.specs.Words.{IsNumber, IsNumberIn}
use Rattle.lrlex_cli.specs.declared.words.WordsFault.{WordsFault}

-- the number is read, or there is none to read
abbrev Reads : (Option ℕ → Type 0) → Result (Option ℕ) WordsFault → Type 0
Reads P q = IfOk q P × IfErr q (λ e. (n : Option ℕ) → ¬ (P n))

refused : (P : Option ℕ → Type 0) (Q : WordsFault → Type 0) (q : Result (Option ℕ) WordsFault) → IsErrAnd q Q → ((n : Option ℕ) → P n → ⊥) → Reads P q
refused P Q (Ok n) is never = absurd is
refused P Q (Err e) is never = (tt, never)

taken : (P : Option ℕ → Type 0) (q : Result (Option ℕ) WordsFault) (n : Option ℕ) → q ≡ Ok n → P n → Reads P q
taken P q n is h = subst (Reads P) (sym is) (h, tt)

no_number : {E : Type 0} (bits : ℕ) (t : Text) (e : E) → ParsesUnsigned bits 10 t (Err e) → (n : Option ℕ) → IsNumberIn bits (Some t) n → ⊥
no_number bits t e fails None h = h
no_number bits t e fails (Some n) h = fails (h.0, subst (λ k. k < 2 ^ bits) (sym h.1) h.2)

module _ (E : Type 0) (bits : ℕ) (G : Text → Result ℕ E → Type 0) (parses : (t : Text) (x : Result ℕ E) → G t x → ParsesUnsigned bits 10 t x)
    (q : Result (Option ℕ) WordsFault) (Q : E → WordsFault → Type 0) where
  read_value : (value : Option Text) (r : Result (Option ℕ) E) → (value ≡ None → r ≡ Ok None) → ((t : Text) → value ≡ Some t → TriesOne G t r)
      → MatchResult r (λ n. q ≡ Ok n) (λ e. IsErrAnd q (Q e)) → Reads (IsNumberIn bits value) q
  read_value None r none some cases = taken _ q None (subst (λ x. MatchResult x (λ n. q ≡ Ok n) (λ e. IsErrAnd q (Q e))) (none refl) cases) refl
  read_value (Some t) (Ok (Some n)) none some cases =
      let p = parses t (Ok n) (some t refl) in
      taken _ q (Some n) cases (p.0.0, sym p.1, subst (λ k. k < 2 ^ bits) (sym p.1) p.0.1)
  read_value (Some t) (Ok None) none some cases = absurd (some t refl)
  read_value (Some t) (Err e) none some cases = refused _ (Q e) q cases (no_number bits t e (parses t (Err e) (some t refl)))

  -- reading the number of the option of a name
  pub read_number : (f : Found) (name : Text) (r : Result (Option ℕ) E) → (one_text f name ≡ None → r ≡ Ok None)
      → ((t : Text) → one_text f name ≡ Some t → TriesOne G t r)
      → MatchResult r (λ n. q ≡ Ok n) (λ e. IsErrAnd q (Q e)) → Reads (IsNumber bits (rows_of f) name) q
  read_number f name r none some cases =
      subst (λ (value : Option Text). Reads (IsNumberIn bits value) q) (one_text-rows f name) (read_value (one_text f name) r none some cases)
