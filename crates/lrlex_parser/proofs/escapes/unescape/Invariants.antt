use Rattle.std.proofs.Common.{◌≡◌, ◌++◌}
use Rattle.std.specs.String.{string_bytes}
use Rattle.std.specs.Str.Iter.{chars_rest}
use Rattle.lrlex_parser.specs.Escape.{unescape}
use Rattle.lrlex_parser.proofs.escapes.unescape.Given as goal

-- what is written, and what the rest becomes, are what the pattern becomes
abbrev pub invariant-loop-c : goal.invariant-loop-c
invariant-loop-c l = string_bytes l.out ++ unescape l.posix (chars_rest l.rest) ≡ unescape l.posix l.pattern
