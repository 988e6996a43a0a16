-- A compiled rule gives what its text is read as.
use Rattle.std.specs.Prelude.{Result, Ok, Err, IfOk}
use Rattle.std.proofs.Common.{◌≡◌, ℕ, ◌≤◌, List, length, Option, None, Some, IsSomeAnd, subst}
use Rattle.std.specs.Option.{option_map_or}
use Rattle.std.specs.Str.{chars}
use Rattle.std.proofs.Props.{props}
use Rattle.std.proofs.Math.Logic.{∥∥₁_elim}
use Rattle.regex_syntax.specs.Brackets.{Nested}
use Rattle.regex_syntax.specs.Grammar.{Names, group_count, read}
use Rattle.regex_syntax.specs.Verdict.{Reads}
use Rattle.regex.specs.Patterns.{Config, Re, SameCaptures, empty}
use Rattle.regex.specs.Strings.{regex_pattern, regex_config, regex_source, IsReadFromSource}
use Rattle.regex.specs.declared.string.regex.Regex.{Regex}
use Rattle.lrlex_rules.specs.Patterns.{pattern_read}

read_value : (o : Option (Nested Re × Names)) (most : ℕ) (a : Re) (names : Names) →
    IsSomeAnd o (λ (re, found). (re.depth ≤ most) × SameCaptures a re.value × (names ≡ found) × (group_count a ≤ length names)) →
    SameCaptures a (option_map_or (λ found. found.0.value) o empty)
read_value None most a names h = absurd h
read_value (Some x) most a names h = h.1

as_read : (r : Regex) → IsReadFromSource r → SameCaptures (regex_pattern r) (pattern_read (regex_config r) (regex_source r))
unfolding Reads pattern_read
as_read r h = read_value (read (regex_config r) (chars (regex_source r))) _ (regex_pattern r) _ h

outcomes_prop : (a b : Option (ℕ × (ℕ → Option ℕ))) → IsProp (a ≡ b)
outcomes_prop a b = Prim.hlevel props

-- the pattern that was compiled from a text gives the matches and captures of the one that its grammar reads there
pub source_alike : (re : Regex) (config : Config) (source : List ℕ) → regex_source re ≡ source → ∥ IsReadFromSource re ∥₁ → regex_config re ≡ config →
    SameCaptures (regex_pattern re) (pattern_read config source)
source_alike re config source is read under =
    let here : SameCaptures (regex_pattern re) (pattern_read (regex_config re) (regex_source re)) =
    record { at = λ hay bytes k i. ∥∥₁_elim read (outcomes_prop _ _) (λ h. (as_read re h).at hay bytes k i) } in
    subst (λ o. SameCaptures (regex_pattern re) (pattern_read o source)) under
    (subst (λ s. SameCaptures (regex_pattern re) (pattern_read (regex_config re) s)) is here)

pub if_ok : {T E : Type 0} {P Q : T → Type 0} (r : Result T E) → ((x : T) → P x → Q x) → IfOk r P → IfOk r Q
if_ok (Ok x) f h = f x h
if_ok (Err e) f h = tt
