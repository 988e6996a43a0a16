-- The settings of a rule text, as C gives them.
use Rattle.std.specs.Prelude.{ℕ, Bool, ◌==◌, not, bit_and, if◌then◌else◌}
use Rattle.std.specs.declared.option.Option.{Option}
use Rattle.std.specs.declared.option.Option.TheVariants.{None, Some}
use Rattle.lrlex_rules.specs.declared.flags.LexFlags.{LexFlags}
use Rattle.lrlex_handles.specs.declared.structs.Options.{Options}

-- the flag of a bit, if it is set
abbrev pub flag_by : Options → ℕ → Option Bool
flag_by o bit = if bit_and o.set bit == 0 then None else Some (not (bit_and o.on bit == 0))

-- 0 is unset
abbrev pub limit_by : ℕ → Option ℕ
limit_by n = if n == 0 then None else Some n

abbrev pub flags_by : Options → LexFlags
flags_by o = record {
  dot_matches_new_line = flag_by o 1;
  multi_line = flag_by o 2;
  octal = flag_by o 4;
  posix_escapes = flag_by o 8;
  allow_wholeline_comments = flag_by o 16;
  case_insensitive = flag_by o 32;
  swap_greed = flag_by o 64;
  ignore_whitespace = flag_by o 128;
  unicode = flag_by o 256;
  size_limit = limit_by o.size_limit;
  dfa_size_limit = None;
  nest_limit = limit_by o.nest_limit;
}
