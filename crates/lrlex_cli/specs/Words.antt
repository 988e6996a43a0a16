-- What the words of the command line ask for, and what a fault of theirs displays.
use Rattle.std.specs.Prelude.{◌≡◌, ◌<◌, ◌^◌, ◌⊎◌, true, ℕ, Bool, List, Option, Some, None, String, codes, option_map, string_bytes}
use Rattle.std.specs.Str.{bytes_eq}
use Rattle.std.specs.Str.Parse.{IsNumeral, digits_value, without_leading_plus}
use Rattle.clap.specs.Words.{Row, Text, first_of, one_of, takes}
use Rattle.lrlex_rules.specs.declared.flags.LexFlags.{LexFlags}
use Rattle.lrlex_cli.specs.Command.{command, given}
use Rattle.lrlex_cli.specs.declared.words.Words.{Words}
use Rattle.lrlex_cli.specs.declared.words.WordsFault.{WordsFault}
use Rattle.lrlex_cli.specs.declared.words.WordsFault.TheVariants.{Memory, Refused}

abbrev pub words_fault_text : WordsFault → List ℕ
words_fault_text Memory = codes "Out of memory"
words_fault_text Refused = codes "Usage: lrlex <lexer.l> <input file>"

-- a value `true` is true, any other is false, and no value is none
abbrev pub truth_in : Option Text → Option Bool
truth_in value = option_map (λ text. bytes_eq text (codes "true")) value

-- the value is this number below 2^bits in decimal digits, which a plus may precede, and no value is none
abbrev pub IsNumberIn : (bits : ℕ) → Option Text → Option ℕ → Type 0
IsNumberIn bits None n = n ≡ None
IsNumberIn bits (Some text) None = ⊥
IsNumberIn bits (Some text) (Some n) =
    IsNumeral 10 (without_leading_plus text) × (digits_value 10 (without_leading_plus text) ≡ n) × (n < 2 ^ bits)

-- the option of this name has this truth value
abbrev pub IsTruth : List Row → Text → Option Bool → Type 0
IsTruth rows name flag = flag ≡ truth_in (first_of name rows)

-- the option of this name has this number, in the text that `clap` returns for it
abbrev pub IsNumber : (bits : ℕ) → List Row → Text → Option ℕ → Type 0
IsNumber bits rows name n = IsNumberIn bits (one_of name rows) n

-- the option of this name has this number, and none too where its text is no such number
abbrev pub IsLimit : (bits : ℕ) → List Row → Text → Option ℕ → Type 0
IsLimit bits rows name n =
    IsNumber bits rows name n ⊎ ((n ≡ None) × ((k : Option ℕ) → ¬ (IsNumber bits rows name k)))

-- each flag is the value of its option
pub record ReadsFlags (rows : List Row) (flags : LexFlags) : Type 0 where
  pub dot_matches_new_line : IsTruth rows (codes "dot-matches-new-line") flags.dot_matches_new_line
  pub multi_line : IsTruth rows (codes "multi-line") flags.multi_line
  pub octal : IsTruth rows (codes "octal") flags.octal
  pub posix_escapes : IsTruth rows (codes "posix-escapes") flags.posix_escapes
  pub allow_wholeline_comments :
      IsTruth rows (codes "allow-wholeline-comments") flags.allow_wholeline_comments
  pub case_insensitive : IsTruth rows (codes "case-insensitive") flags.case_insensitive
  pub swap_greed : IsTruth rows (codes "swap-greed") flags.swap_greed
  pub ignore_whitespace : IsTruth rows (codes "ignore-whitespace") flags.ignore_whitespace
  pub unicode : IsTruth rows (codes "unicode") flags.unicode
  pub size_limit : IsLimit 64 rows (codes "size-limit") flags.size_limit
  pub dfa_size_limit : IsLimit 64 rows (codes "dfa-size-limit") flags.dfa_size_limit
  pub nest_limit : IsLimit 32 rows (codes "nest-limit") flags.nest_limit

-- from, to and text of an edit are what its three options have, and where there is none, none of the three has a value
pub record ReadsEdit {Z : Type 0} (rows : List Row) (edit : Option (ℕ × ℕ × String Z)) : Type 0 where
  pub from : IsNumber 64 rows (codes "from") (option_map (λ e. e.0) edit)
  pub to : IsNumber 64 rows (codes "to") (option_map (λ e. e.1) edit)
  pub put : first_of (codes "put") rows ≡ option_map (λ e. string_bytes e.2) edit

-- the paths are the values of the two positionals, the flags those of their options, and the edit is what its three
-- options hold
pub record IsReadFrom (rows : List Row) (words : Words) : Type 0 where
  pub rules : first_of (codes "rules") rows ≡ Some (string_bytes words.rules)
  pub input : first_of (codes "input") rows ≡ Some (string_bytes words.input)
  pub flags : ReadsFlags rows words.flags
  pub edit : ReadsEdit rows words.edit

-- the command takes these words, the program's own name first, and what it finds in them can be read
abbrev pub CanBeRead : List Text → Type 0
CanBeRead words = (takes command words ≡ true) × ((w : Words) × IsReadFrom (given words) w)
