-- The pattern of a source.
use Rattle.regex.specs.Patterns.{Re}
use Rattle.regex.specs.Strings.{regex_pattern}
use Rattle.lrlex_table.specs.declared.source.Source.{Source}

abbrev pub source_pattern : Source → Re
source_pattern s = regex_pattern s.regex.now
