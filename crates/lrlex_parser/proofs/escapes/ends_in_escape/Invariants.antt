use Rattle.std.proofs.Common.{◌≡◌, take}
use Rattle.lrlex_parser.specs.Escape.{ends_in_escape}
use Rattle.lrlex_parser.proofs.escapes.ends_in_escape.Given as goal

-- as far as the loop has come
abbrev pub invariant-loop-b : goal.invariant-loop-b
invariant-loop-b l = l.escaped ≡ ends_in_escape (take l.b-index l.text)
