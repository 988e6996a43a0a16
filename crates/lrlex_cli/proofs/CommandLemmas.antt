-- What the command finds.
use Rattle.std.proofs.Common.{◌≡◌, ◌∙◌, ap, refl, true, List}
use Rattle.clap.specs.Words.{App, HasMatchesOf, Text, found_of, is_simple, matches_of, rows_of}
use Rattle.clap.specs.declared.parser.matches.ArgMatches.{ArgMatches}
use Rattle.lrlex_cli.specs.Command.{command, given}

-- the command is simple
simple : is_simple command ≡ true
simple = refl

-- the matches of the command are those of its definition
pub rows_given : (a : App) (words : List Text) (m : ArgMatches) → a ≡ command → HasMatchesOf a words m → rows_of (found_of m) ≡ given words
unfolding given
rows_given a words m e h = (h (ap is_simple e ∙ simple)).0 ∙ ap (λ (x : App). matches_of x words) e
