use Rattle.std.proofs.Common.{◌≡◌, ◌-◌, drop, ℕ, ◌+◌, ◌≤◌, ◌++◌, List, length, map}
use Rattle.std.specs.Option.{option_copied, option_map_or, IfSome}
use Rattle.lrlex_parser.specs.Text.{piece, cut_lines, lines_left}
use Rattle.lrlex_parser.specs.Declaration.{section_lines, section_end}
use Rattle.lrlex_parser.specs.LexParser.{as_piece, EndBy, laid_out}
use Rattle.lrlex_parser.proofs.text.read_section.Given as goal

-- the lines so far and those of what is left are all the lines
abbrev pub invariant-loop-left : goal.invariant-loop-left
invariant-loop-left l = record {
  said : map as_piece l.lines.items ++ section_lines l.comments (map (laid_out l.margins) (lines_left l.end (option_copied l.left))) ≡ section_lines l.comments (map (laid_out l.margins) (cut_lines (piece l.at l.text)));
  ended : section_end (map (laid_out l.margins) (lines_left l.end (option_copied l.left))) ≡ section_end (map (laid_out l.margins) (cut_lines (piece l.at l.text)));
  fit : EndBy l.end l.lines.items;
  suffix : IfSome (option_copied l.left) (λ rest. (rest ≡ drop (length l.text - length rest) l.text) × (length rest ≤ length l.text));
  short : IfSome (option_copied l.left) (λ rest. length rest ≤ l.end);
}

abbrev pub decreases-loop-left : goal.decreases-loop-left
decreases-loop-left l = option_map_or (λ (rest : List ℕ). length rest + 1) (option_copied l.left) 0
