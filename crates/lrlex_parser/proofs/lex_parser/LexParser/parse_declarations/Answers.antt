use Rattle.std.proofs.Common.{List, map, subst, sym, ◌∙◌}
use Rattle.std.specs.List.{flat_map}
use Rattle.std.proofs.lemmas.List.{take_all}
use Rattle.lrlex_parser.specs.declared.text.Line.{Line}
use Rattle.lrlex_parser.specs.Outcome.{events_after}
use Rattle.lrlex_parser.specs.Event.{Event}
use Rattle.lrlex_parser.specs.Declaration.{state_event, declared_by}
use Rattle.lrlex_parser.specs.LexParser.{Represents, as_piece}
use Rattle.lrlex_parser.proofs.Runs.{said_after_more, said_after_stop}
use Rattle.lrlex_parser.proofs.lex_parser.LexParser.parse_declarations.Goals as goal

pub loop-line-preserved : goal.loop-line-preserved
loop-line-preserved g c flags events was =
    let so_far = c.loop-line.invariant flags events was in
    let P : List Event → Type 0 = λ es. Represents g.StorageT.Numbered.number flags c.parse_declaration.new.self es in
    subst P (said_after_more state_event declared_by as_piece events c.args.lines.now c.loop-line.line-index _ c.loop-line-test.true) (c.in_ok-parse_declaration.ensures flags _ so_far)

pub returns-then-self : goal.returns-then-self
returns-then-self g c flags events was =
    let so_far = c.loop-line.invariant flags events was in
    let P : List Event → Type 0 = λ es. Represents g.StorageT.Numbered.number flags c.loop-line.self es in
    subst P (said_after_stop state_event declared_by as_piece events c.args.lines.now c.loop-line.line-index (sym so_far.refused ∙ c.if-self.true)) so_far

pub returns-after-loop-line : goal.returns-after-loop-line
returns-after-loop-line g c flags events was =
    let P : List Line → Type 0 = λ lines. Represents g.StorageT.Numbered.number flags c.loop-line.self (events_after state_event events (flat_map declared_by (map as_piece lines))) in
    subst P (take_all c.loop-line.line-index c.args.lines.now c.loop-line-test.false) (c.loop-line.invariant flags events was)
