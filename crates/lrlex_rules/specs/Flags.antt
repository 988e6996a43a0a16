-- The settings of a rule file.
use Rattle.std.specs.Prelude.{ℕ, ◌*◌, ◌^◌, min, Bool, true, false, Option, Some, None, option_map, unwrap_or}
use Rattle.regex.specs.Patterns.{Config}
use Rattle.lrlex_rules.specs.declared.flags.LexFlags.{LexFlags}

-- no flag is set
abbrev pub unset : LexFlags
unset = record {
  dot_matches_new_line = None;
  multi_line = None;
  octal = None;
  posix_escapes = None;
  allow_wholeline_comments = None;
  case_insensitive = None;
  swap_greed = None;
  ignore_whitespace = None;
  unicode = None;
  size_limit = None;
  dfa_size_limit = None;
  nest_limit = None;
}

-- whether escapes are POSIX lex's, and whether a line may be a comment
abbrev pub has_posix_escapes : LexFlags → Bool
has_posix_escapes flags = unwrap_or flags.posix_escapes false

abbrev pub allows_comments : LexFlags → Bool
allows_comments flags = unwrap_or flags.allow_wholeline_comments false

-- how deep a pattern may nest: more than 1,000 levels are not to be had, since `regex` takes stack for each
abbrev pub nest_limit_of : LexFlags → ℕ
nest_limit_of f = min (unwrap_or f.nest_limit 250) 1_000

-- the options of `regex` for these flags; what is unset and has no default of lrlex's is as `regex` has it
abbrev pub config_of : LexFlags → Config
config_of f = record {
  flags = record {
    case_insensitive = unwrap_or f.case_insensitive false;
    multi_line = unwrap_or f.multi_line true;
    dot_matches_new_line = unwrap_or f.dot_matches_new_line true;
    swap_greed = unwrap_or f.swap_greed false;
    unicode = unwrap_or f.unicode true;
    crlf = false;
    ignore_whitespace = unwrap_or f.ignore_whitespace false;
  };
  octal = unwrap_or f.octal true;
  utf8 = true;
  nest_limit = nest_limit_of f;
}

-- a limit on nesting that is set, as it is used
abbrev pub capped : Option ℕ → Option ℕ
capped limit = option_map (λ (n : ℕ). min n 1_000) limit

-- the flags as they are used: each that is unset and has a default of lrlex's own is set to it, and a limit on nesting that is set is at most 1,000
abbrev pub resolved : LexFlags → LexFlags
resolved flags = record flags {
  octal = Some (config_of flags).octal;
  multi_line = Some (config_of flags).flags.multi_line;
  dot_matches_new_line = Some (config_of flags).flags.dot_matches_new_line;
  posix_escapes = Some (has_posix_escapes flags);
  allow_wholeline_comments = Some (allows_comments flags);
  nest_limit = capped flags.nest_limit;
}

-- the limit on a compiled pattern's size, in bytes
abbrev pub size_limit_of : LexFlags → ℕ
size_limit_of f = unwrap_or f.size_limit (10 * 2 ^ 20)
