-- What the rules of a language are shown as, and the language that a rule text makes.
use Rattle.std.specs.Prelude.{◌≡◌, ⊤, ◌-◌, ◌^◌, Ok, Err, ℕ, ◌==◌, Bool, List, Option, bytes_eq, find, map, option_map, position, string_bytes}
use Rattle.std.specs.declared.string.String.{String}
use Rattle.std.specs.List.{after_first, before_first, filter_map, slice_split}
use Rattle.std.specs.Option.{option_map_or}
use Rattle.lrlex.specs.Views.{definition_of, definition_rules}
use Rattle.lrlex_rules.specs.Definition.{Definition}
use Rattle.lrlex_parser.specs.LexBuildResult.{IsAnswer}
use Rattle.lrlex_rules.specs.RuleParts.{RuleParts}
use Rattle.lrlex_rules.specs.declared.flags.LexFlags.{LexFlags}
use Rattle.lrlex_lsp.specs.TokenTypes.{type_named}
use Rattle.lrlex_lsp.specs.declared.languages.Language.{Language}
use Rattle.lrlex_lsp.specs.declared.languages.LanguageFault.{LanguageFault}
use Rattle.lrlex_lsp.specs.declared.languages.LanguageFault.TheVariants.{OutOfMemory, Rules}
use Rattle.lrlex_lsp.specs.declared.languages.Map.{Map}
use Rattle.lrlex_lsp.specs.declared.languages.Map.TheVariants.{Pairs, Words}
use Rattle.lrlex_lsp.specs.declared.languages.Shown.{Shown}
use Rattle.lrlex_lsp.specs.declared.languages.Shown.TheVariants.{As, Plain, Guessed}

-- what a rule is shown as by the name of a token type: what isn't one stands for plain text
abbrev pub shown_as : (kind : List ℕ) → Shown
shown_as kind = option_map_or As (type_named kind) Plain

-- what pairs of a name and a type say of a name: the first that has it counts, and without one the pieces are guessed at
abbrev pub shown_by : (pairs : List (List ℕ × List ℕ)) → (name : List ℕ) → Shown
shown_by pairs name = option_map_or (λ (pair : List ℕ × List ℕ). shown_as pair.1) (find (λ (pair : List ℕ × List ℕ). bytes_eq pair.0 name) pairs) Guessed

-- what they say of a rule: without a name its pieces are guessed at
abbrev pub shown_of : (pairs : List (List ℕ × List ℕ)) → (name : Option (List ℕ)) → Shown
shown_of pairs name = option_map_or (shown_by pairs) name Guessed

-- names and types as texts
abbrev pub pairs_of : {A B : Type 0} → List (String A × String B) → List (List ℕ × List ℕ)
pairs_of {A} {B} given = map (λ (pair : String A × String B). (string_bytes pair.0, string_bytes pair.1)) given

-- the byte is `=`
abbrev pub is_equals : ℕ → Bool
is_equals byte = byte == 61

-- the pair that a word NAME=TYPE stands for, by its first `=`
abbrev pub pair_in : (word : List ℕ) → Option (List ℕ × List ℕ)
pair_in word = option_map (λ _. (before_first is_equals word, after_first is_equals word)) (position is_equals word)

-- the pairs of such words, with a blank between two
abbrev pub pairs_in : (words : List ℕ) → List (List ℕ × List ℕ)
pairs_in words = filter_map pair_in (slice_split (λ byte. byte == 32) words)

-- the pairs of a map
abbrev pub map_pairs : Map → List (List ℕ × List ℕ)
map_pairs (Pairs given) = pairs_of given.now
map_pairs (Words words) = pairs_in words.now

-- what these rules are shown as
abbrev pub all_shown : {S : Type 0} → (pairs : List (List ℕ × List ℕ)) → (rules : List (RuleParts S)) → List Shown
all_shown {S} pairs rules = map (λ (rule : RuleParts S). shown_of pairs rule.name) rules

-- The language is that of this rule text, read with these flags: its definition is what the text says, and each rule is shown as the pairs say of it.
pub record IsLanguageOf (pairs : List (List ℕ × List ℕ)) (flags : LexFlags) (text : List ℕ) (language : Language) : Type 0 where
  pub read : IsAnswer (definition_of (λ n. n)) flags (2 ^ 32 - 1) text (Ok language.definition)
  pub keeps_text : string_bytes language.rules ≡ text
  pub keeps_flags : language.flags ≡ flags
  pub shown : language.shown.items ≡ all_shown pairs (definition_rules language.definition)

-- there is no language since memory ran out, or since the rule text has these faults
abbrev pub IsFaultOf : LexFlags → (text : List ℕ) → LanguageFault → Type 0
IsFaultOf flags text OutOfMemory = ⊤
IsFaultOf flags text (Rules faults) = IsAnswer (λ (d : Definition). d) flags (2 ^ 32 - 1) text (Err faults)
