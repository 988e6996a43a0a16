use Rattle.std.proofs.Common.{arith}
use Rattle.std.proofs.lemmas.Bool.{not-true}
use Rattle.std.proofs.lemmas.Str.Pattern.{NoCharPasses-char}
use Rattle.lrlex_positions.proofs.LineLemmas.{none_lone, none_without}
use Rattle.lrlex_positions.proofs.lines.has_newlines_alone.Goals as goal

pub returns-then-not-contains : goal.returns-then-not-contains
returns-then-not-contains c _ = none_without c.args.text.now (λ i l. NoCharPasses-char 13 c.args.text.now i c.if-not-contains.ensures.cases (omega arith) l)

pub returns : goal.returns
returns c is = none_lone c.args.text.now (λ i l. c.has_lone_return.ensures (not-true c.has_lone_return.result is) i (omega arith) l)
