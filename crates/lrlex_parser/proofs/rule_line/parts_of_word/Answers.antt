use Rattle.std.proofs.Common.{arith}
use Rattle.lrlex_parser.proofs.Angles.{after_within}
use Rattle.lrlex_parser.proofs.rule_line.parts_of_word.Goals as goal

pub label_in-requires-in-Closed-clause-room : goal.label_in-requires-in-Closed-clause-room
label_in-requires-in-Closed-clause-room c = let short = after_within c.args.word.now c.in-Closed.part.now c.in-Closed.ensures.3 in omega arith
