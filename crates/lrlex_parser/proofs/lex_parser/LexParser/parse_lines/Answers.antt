use Rattle.std.proofs.Common.{List, map, subst, sym, ap, ◌∙◌, Option, ℕ, get_or}
use Rattle.std.proofs.lemmas.List.{take_all}
use Rattle.lrlex_parser.specs.declared.text.Line.{Line}
use Rattle.lrlex_parser.specs.Event.{Event}
use Rattle.lrlex_parser.specs.Outcome.{events_after, line_event}
use Rattle.lrlex_parser.specs.LexParser.{Represents, hits, as_piece}
use Rattle.lrlex_parser.proofs.Runs.{events_after_stop}
use Rattle.lrlex_parser.proofs.RuleRuns.{line_more}
use Rattle.lrlex_parser.proofs.lex_parser.LexParser.parse_lines.Goals as goal

pub loop-line-preserved : goal.loop-line-preserved
loop-line-preserved g c = line_more g.StorageT.Numbered.number c.args.flags.now g.StorageT.Numbered.greatest c.args.self.now c.loop-line.self c.parse_line.new.self c.args.lines.now c.loop-line.line-index _ c.loop-line-test.true c.if-self.false c.requires.apart c.loop-line.invariant c.in_ok-parse_line.ensures

pub returns-after-loop-line : goal.returns-after-loop-line
returns-after-loop-line g c s suits events was same =
    let P : List Line → Type 0 = λ ls. Represents g.StorageT.Numbered.number c.args.flags.now c.loop-line.self (events_after (line_event s) events (map as_piece ls)) in
    subst P (take_all c.loop-line.line-index c.args.lines.now c.loop-line-test.false)
    (c.loop-line.invariant s suits events was (λ j d h. ap (λ (x : Option ℕ). hits x (get_or c.args.lines.now j d).at) same))

pub returns-then-self : goal.returns-then-self
returns-then-self g c s suits events was same =
    let so_far = c.loop-line.invariant s suits events was (λ j d h. ap (λ (x : Option ℕ). hits x (get_or c.args.lines.now j d).at) same) in
    let P : List Event → Type 0 = λ es. Represents g.StorageT.Numbered.number c.args.flags.now c.loop-line.self es in
    subst P (events_after_stop (line_event s) as_piece events c.args.lines.now c.loop-line.line-index (sym so_far.refused ∙ c.if-self.true)) so_far
